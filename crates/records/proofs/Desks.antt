-- What is answered of a record, and what a text line comes to by its record.
use mathlib.Core.Path.{◌≡◌, refl, sym, ap, ◌∙◌, subst}
use mathlib.Core.List.{List}
use Prim.Native.Nat.{ℕ, ◌<◌}
use native.Mathlib.Omega.{arith}
use lib.IntN.{ℤ}
use Rattle.rules.specs.declared.Line.{Line}
use Rattle.words.specs.declared.Record.{Record}
use Rattle.words.specs.declared.Record.TheVariants.{Start, Pt, Near, In, Meet, Agree, NotUnderstood}
use Rattle.words.specs.Records.{record_of}
use Rattle.desk.specs.Desk.{Desk, saying, take_record, take_text}
use Rattle.desk.specs.Kept.{store_in}
use Rattle.ready.specs.declared.TablesBuilt.{TablesBuilt}
use Rattle.store.specs.declared.State.{State}
use Rattle.store.specs.declared.Outcome.{Outcome}
use Rattle.answers.specs.declared.Replied.{Replied}
use Rattle.answers.specs.Asked.{reply_to, Replies}
use Rattle.records.specs.Left.{both, Numbers, stores_after, text_left}
use Rattle.records.specs.Built.{built_in, with_built, asked_built, record_built, text_built}
use Rattle.records.specs.Carried.{desk_of, Bounds}
use Rattle.records.specs.Takes.{Takes, TakesRecord, TakesText}
use Rattle.store.specs.States.{counted, sayingly}

-- a state whose text line is counted has an ordinal for a line that is printed
pub record Ready (s : State) : Type 0 where
  pub bounds : Bounds s
  pub next : s.printed < s.read

-- ---------------- any record but LINE and PT is answered, and leaves the stores as they are
reply-said : (d : Desk) (n : Numbers) (k : TablesBuilt) (q : Record) → ((l : Line) → q ≡ Start l → ⊥)
    → ((x y : ℤ) → q ≡ Pt x y → ⊥) → (saying d (reply_to q d.text_lines d.a d.b) ≡ take_record d q)
    × (n.stores ≡ stores_after d n.stores q) × (asked_built d n.tables k q ≡ record_built d n.tables k q)
reply-said d n k (Start l) start pt = absurd (start l refl)
reply-said d n k (Pt x y) start pt = absurd (pt x y refl)
reply-said d n k (Near x y D allowance) start pt = (refl, refl, refl)
reply-said d n k (In x y allowance) start pt = (refl, refl, refl)
reply-said d n k (Meet allowance) start pt = (refl, refl, refl)
reply-said d n k (Agree D allowance) start pt = (refl, refl, refl)
reply-said d n k NotUnderstood start pt = (refl, refl, refl)

-- What is replied is said, and the tables that are built are those that the reply tells of.
pub reply-takes : {s : State} (n : Numbers) (q : Record) {replied : Replied} {r : Outcome} {left_a left_b : List ℤ} →
    Ready s → ((l : Line) → q ≡ Start l → ⊥) → ((x y : ℤ) → q ≡ Pt x y → ⊥)
    → Replies q s.read (store_in s.a n.stores.a) (store_in s.b n.stores.b) (built_in s)
    n.tables.a n.tables.b replied left_a left_b → r ≡ sayingly (with_built s replied.built) replied.reply
    → TakesRecord s q n r (record { stores = n.stores; tables = both left_a left_b })
reply-takes {s} n q {replied} {r} ready start pt p e =
    let a = n.stores.a in
    let b = n.stores.b in
    let d = desk_of s a b in
    let said = reply-said d n (built_in s) q start pt in
    let k = ready.bounds in
    let takes : Takes (take_record d q) s (sayingly (with_built s replied.built) replied.reply) a b =
    record {
      taken = ap (saying d) p.reply ∙ said.0;
      bounds = record { count-a = k.count-a; count-b = k.count-b; kept = k.kept; ordinal = omega arith };
      read = refl;
      pending = refl;
    } in (
      subst (λ (r : Outcome). Takes (take_record d q) s r a b) (sym e) takes,
      λ i. record { stores = said.1 i; tables = both (p.first i) (p.second i) },
      ap (λ (r : Outcome). built_in r.state) e ∙ p.built ∙ said.2,
    )

-- ---------------- a text line is counted, and then it is its record
-- What the record comes to is what the text line comes to, and leaves what the text line leaves.
pub line-takes : (s : State) {u : State} (text : List ℕ) {q : Record} {r : Outcome} (n after : Numbers)
    → u ≡ counted s → q ≡ record_of text → TakesRecord u q n r after → TakesText s text n r after
unfolding take_text text_left text_built
line-takes s text {q} {r} n after e f t =
    subst (λ (q : Record). TakesRecord (counted s) q n r after) f (subst (λ (u : State). TakesRecord u q n r after) e t)
