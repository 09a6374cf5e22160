-- How a question goes on once it is known whether the tables stand ready.
use mathlib.Core.Path.{◌≡◌, sym, ap, ◌∙◌, subst⁻¹}
use mathlib.Core.Bool.{Bool, true, false, cond, ◌&&◌, and-eq-true_iff}
use mathlib.Core.List.{List}
use Prim.Native.Nat.{ℕ}
use lib.IntN.{ℤ}
use Rattle.std.specs.Prelude.{Result, Ok, Err, is_ok}
use Rattle.rules.specs.declared.Line.TheVariants.{LineA, LineB}
use Rattle.rules.specs.declared.Reply.{Reply}
use Rattle.rules.specs.Build.{table_of}
use Rattle.desk.specs.Desk.{Store, with_table}
use Rattle.ready.specs.declared.Needed.{Needed}
use Rattle.ready.specs.declared.Needed.TheVariants.{NoTable, TableA, BothTables}
use Rattle.ready.specs.declared.TablesBuilt.{TablesBuilt}
use Rattle.ready.specs.declared.Prepared.{Prepared}
use Rattle.ready.specs.Readied.{readied_reply, Rows, HasRows, with_tables, ReadiesLine, Readies}
use Rattle.ready.specs.Left.{is_ready, table_after}
use Rattle.ready.proofs.Tables.{rows-ready}

-- the rows of a line that stands ready stand in what is left in its table
stands : (s : Store) (t : List ℤ) {left : List ℤ} → left ≡ table_after s t → is_ready s t ≡ true → Rows s.points left
stands s t l e = subst⁻¹ (Rows s.points) l (rows-ready s t e)

-- .. and so do those of the lines whose tables are needed
pub has-rows : (k : Needed) {a b : Store} {place : ℕ} {was : TablesBuilt} {table_a table_b left_a left_b : List ℤ}
    {r : Prepared} → Readies k a b place was table_a table_b r left_a left_b → r.readied ≡ Ok tt
    → HasRows k a.points left_a b.points left_b
has-rows NoTable h e = tt
has-rows TableA {a} {table_a = table_a} h e = stands a table_a h.first (sym h.goes ∙ ap is_ok e)
has-rows BothTables {a} {b} {table_a = table_a} {table_b = table_b} h e =
    let both = (and-eq-true_iff (is_ready a table_a) (is_ready b table_b)).0 (sym h.goes ∙ ap is_ok e) in
    let second = ap (λ k. cond k (table_after b table_b) table_b) both.0 in
    (stands a table_a h.first both.0, stands b table_b (h.second ∙ second) both.1)

-- the tables that are needed, said another way
pub needed-are : {k k' : Needed} {a b : Store} {place : ℕ} {was : TablesBuilt} {table_a table_b left_a left_b : List ℤ}
    {r : Prepared} → k ≡ k' → Readies k' a b place was table_a table_b r left_a left_b
    → Readies k a b place was table_a table_b r left_a left_b
needed-are {k} {k'} {a} {b} {place} {was} {table_a} {table_b} {left_a} {left_b} {r} e =
    subst⁻¹ (λ (k : Needed). Readies k a b place was table_a table_b r left_a left_b) e

-- ---------------- both are needed

-- the reply, where what readying came to is known
goes : (asked : Reply) {r known : Result Unit Reply} {reply : Reply} → r ≡ known
    → readied_reply r asked ≡ reply → readied_reply known asked ≡ reply
goes asked e h = sym (ap (λ (r : Result Unit Reply). readied_reply r asked) e) ∙ h

module _ (b : Store) (was : TablesBuilt) (table_b : List ℤ) where
  -- whether both stand ready, what is left in B's table and which tables are built, by whether A stands ready
  abbrev ready : Bool → Bool
  ready k = k && is_ready b table_b

  abbrev second : Bool → List ℤ
  second k = cond k (table_after b table_b) table_b

  abbrev built : Bool → TablesBuilt
  built k = record { a = k; b = cond k (is_ready b table_b) was.b }

  module _ {a : Store} {place : ℕ} {table_a left_a : List ℤ} {r : Result Unit Reply}
      (first : ReadiesLine LineA a place table_a r left_a) where
    -- what is asked of A is to go on with B
    onwards : {known : Result Unit Reply} → r ≡ known → (go : List ℤ → List ℤ → Reply)
        → readied_reply known (with_table LineB b place (go (table_of a.points)))
        ≡ with_tables BothTables a b place go
    onwards e go =
        let ask : List ℤ → Reply = λ t. with_table LineB b place (go t) in
        goes (ask (table_of a.points)) e (first.reply ask)

    -- A's is refused, and B's is not looked at
    pub a-refused : {told : Reply} → r ≡ Err told
        → Readies BothTables a b place was table_a table_b
        (record { readied = r; built = record { a = false; b = was.b } }) left_a table_b
    a-refused e =
        let no : false ≡ is_ready a table_a = sym (ap is_ok e) ∙ first.goes in
        record {
          reply = λ go.
              ap (λ (r : Result Unit Reply). readied_reply r (go (table_of a.points) (table_of b.points))) e
              ∙ onwards e go;
          goes = ap is_ok e ∙ ap ready no;
          first = first.left;
          second = ap second no;
          built = ap built no;
        }

    -- A's is ready, and what comes of B's decides
    pub b-decides : {left_b : List ℤ} {q : Result Unit Reply} {ready_b : Bool} → r ≡ Ok tt
        → ReadiesLine LineB b place table_b q left_b → ready_b ≡ is_ok q
        → Readies BothTables a b place was table_a table_b
        (record { readied = q; built = record { a = true; b = ready_b } }) left_a left_b
    b-decides e then g =
        let yes : true ≡ is_ready a table_a = sym (ap is_ok e) ∙ first.goes in
        record {
          reply = λ go. then.reply (go (table_of a.points)) ∙ onwards e go;
          goes = then.goes ∙ ap ready yes;
          first = first.left;
          second = then.left ∙ ap second yes;
          built = (λ i. record { a = true; b = (g ∙ then.goes) i }) ∙ ap built yes;
        }
