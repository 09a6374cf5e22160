-- A line whose table is built stays ready, whatever is read: what changes its points makes its table built no more, and
-- what readies it leaves it ready. So the tables that are kept are those that building would leave.
use mathlib.Core.Path.{subst⁻¹}
use mathlib.Core.Bool.{Bool, true, false, cond, false≢true}
use mathlib.Core.List.{List, [], ◌∷◌, ◌++◌}
use Prim.Native.Nat.{ℕ}
use lib.Dec.{ltb}
use lib.IntN.{ℤ}
use Rattle.rules.specs.declared.Line.{Line}
use Rattle.rules.specs.declared.Line.TheVariants.{NoLine, LineA, LineB}
use Rattle.rules.specs.Sheet.{points_of}
use Rattle.words.specs.declared.Record.{Record}
use Rattle.words.specs.declared.Record.TheVariants.{Start, Pt, Near, In, Meet, Agree, NotUnderstood}
use Rattle.words.specs.Records.{record_of}
use Rattle.desk.specs.Desk.{Store, room, Desk, store_of, put_store, count_text, quiet, saying, refused_at, add_point, take_point, take_record, take_text}
use Rattle.ready.specs.declared.Needed.{Needed}
use Rattle.ready.specs.declared.Needed.TheVariants.{NoTable, TableA, BothTables}
use Rattle.ready.specs.declared.TablesBuilt.{TablesBuilt}
use Rattle.ready.specs.Left.{is_ready, table_after, first_after, second_after, built_after, AsBuilt}
use Rattle.ready.proofs.Tables.{stays-ready}
use Rattle.answers.specs.Asked.{needed_by}
use Rattle.store.specs.declared.State.{State}
use Rattle.store.specs.declared.Outcome.{Outcome}
use Rattle.records.specs.Left.{Both, both, Numbers, record_left, text_left}
use Rattle.records.specs.Built.{built_in, points_change, asked_built, record_built, text_built, AllAsBuilt}
use Rattle.records.specs.Carried.{desk_of}
use Rattle.records.specs.Takes.{TakesRecord}

-- a table that is not built is not kept
pub none-built : {s : Store} {t : List ℤ} → AsBuilt false s t
none-built e = absurd (false≢true e)

-- ---------------- the tables that a question needs
needed-stay : (needed : Needed) (k : TablesBuilt) (a b : Store) (t : Both) → AllAsBuilt k a b t
    → AllAsBuilt (built_after needed k a b t.a t.b) a b
    (both (first_after needed a t.a) (second_after needed a b t.a t.b))
needed-stay NoTable k a b t h = record { a = h.a; b = h.b }
needed-stay TableA k a b t h = record { a = stays-ready a t.a; b = h.b }
needed-stay BothTables k a b t h = record { a = stays-ready a t.a; b = go (is_ready a t.a) }
  where
    go : (first : Bool) → AsBuilt (cond first (is_ready b t.b) k.b) b (cond first (table_after b t.b) t.b)
    go true = stays-ready b t.b
    go false = h.b

-- ---------------- a point, a record, a text line
abbrev pub Stay : TablesBuilt → Desk → Both → Type 0
Stay k d t = AllAsBuilt k d.a d.b t

-- a point for a line, whether there is room for it or not, where this holds whatever the line's store is then
module _ {k : TablesBuilt} {t : Both} (d : Desk) (l : Line) (x y : ℤ)
    (h : (s : Store) → Stay k (put_store d l s) t) where
  abbrev behind : Store
  behind = record { points = (store_of d l).points ++ x ∷ y ∷ []; over = (store_of d l).over }

  abbrev past : Store
  past = record { points = (store_of d l).points; over = true }

  by-room : Stay k (add_point d l x y).desk t
  by-room = go (ltb (points_of (store_of d l).points) room)
    where
      go : (fits : Bool) → Stay k
          (cond fits (quiet (put_store d l behind)) (saying (put_store d l past) (refused_at 13 l d.text_lines))).desk t
      go true = h behind
      go false = h past

-- it leaves the other line as it is
point-stay : (k : TablesBuilt) (d : Desk) (t : Both) (l : Line) (x y : ℤ) → Stay k d t
    → Stay (points_change l k) (take_point d l x y).desk t
point-stay k d t NoLine x y h = record { a = h.a; b = h.b }
point-stay k d t LineA x y h = by-room d LineA x y (λ s. record { a = none-built; b = h.b })
point-stay k d t LineB x y h = by-room d LineB x y (λ s. record { a = h.a; b = none-built })

-- LINE empties a line and leaves the other as it is
start-stay : (k : TablesBuilt) (d : Desk) (t : Both) (l : Line) → Stay k d t
    → Stay (points_change l k) (take_record d (Start l)).desk t
start-stay k d t NoLine h = record { a = h.a; b = h.b }
start-stay k d t LineA h = record { a = none-built; b = h.b }
start-stay k d t LineB h = record { a = h.a; b = none-built }

module _ (k : TablesBuilt) (d : Desk) (n : Numbers) (h : Stay k d n.tables) where
  -- any other record readies the tables that it needs
  asked-stay : (q : Record) → AllAsBuilt (asked_built d n.tables k q) d.a d.b (record_left d n q).tables
  asked-stay q = needed-stay (needed_by q) k d.a d.b n.tables h

  record-stay : (q : Record) → Stay (record_built d n.tables k q) (take_record d q).desk (record_left d n q).tables
  record-stay (Start l) = start-stay k d n.tables l h
  record-stay (Pt x y) = point-stay k d n.tables d.target x y h
  record-stay (Near x y D allowance) = asked-stay (Near x y D allowance)
  record-stay (In x y allowance) = asked-stay (In x y allowance)
  record-stay (Meet allowance) = asked-stay (Meet allowance)
  record-stay (Agree D allowance) = asked-stay (Agree D allowance)
  record-stay NotUnderstood = asked-stay NotUnderstood

-- .. and so past what a record comes to
pub record-stays : {s : State} (n : Numbers) {after : Numbers} (q : Record) {r : Outcome} → TakesRecord s q n r after
    → Stay (built_in s) (desk_of s n.stores.a n.stores.b) n.tables
    → Stay (built_in r.state) (desk_of r.state after.stores.a after.stores.b) after.tables
record-stays {s} n q (takes, left, built) h =
    subst⁻¹ (λ (x : TablesBuilt × Desk × Both). Stay x.0 x.1 x.2)
    (λ i. (built i, (takes.taken i).desk, (left i).tables))
    (record-stay (built_in s) (desk_of s n.stores.a n.stores.b) n h q)

pub text-stay : (k : TablesBuilt) (d : Desk) (n : Numbers) (text : List ℕ) → Stay k d n.tables
    → Stay (text_built d n.tables k text) (take_text d text).desk (text_left d n text).tables
unfolding text_built take_text text_left
text-stay k d n text h = record-stay k (count_text d) n (record { a = h.a; b = h.b }) (record_of text)
