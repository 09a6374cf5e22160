-- Which tables are built from the stores as they are, from text line to text line: a line's is not once its points
-- change, and after a question those that it needed are which stand ready. What keeping them rests on: a line whose
-- table is built stays ready.
use Rattle.std.specs.Prelude.{false, cond, List, [], ◌∷◌, ℕ, eqb, ℤ}
use Rattle.rules.specs.declared.Line.{Line}
use Rattle.rules.specs.declared.Line.TheVariants.{NoLine, LineA, LineB}
use Rattle.words.specs.declared.Record.{Record}
use Rattle.words.specs.declared.Record.TheVariants.{Start, Pt, Near, In, Meet, Agree, NotUnderstood}
use Rattle.words.specs.Fields.{line_feed}
use Rattle.words.specs.Records.{record_of}
use Rattle.desk.specs.Desk.{Store, Desk, count_text}
use Rattle.desk.specs.Chunks.{Carry, carry_byte}
use Rattle.desk.specs.Kept.{store_in}
use Rattle.ready.specs.declared.TablesBuilt.{TablesBuilt}
use Rattle.ready.specs.Left.{built_of, built_after, AsBuilt}
use Rattle.answers.specs.Asked.{needed_by}
use Rattle.store.specs.declared.State.{State}
use Rattle.store.specs.States.{with_a, with_b}
use Rattle.records.specs.Left.{Both, both, Slices, byte_left}

-- ---- as a state has it
abbrev pub built_in : State → TablesBuilt
built_in s = built_of s.a s.b

abbrev pub none_built : TablesBuilt
none_built = record { a = false; b = false }

abbrev pub with_built : State → TablesBuilt → State
with_built s k =
    with_b (with_a s (record { count = s.a.count; over = s.a.over; built = k.a }))
    (record { count = s.b.count; over = s.b.over; built = k.b })

-- ---- the points of a line change
abbrev pub points_change : Line → TablesBuilt → TablesBuilt
points_change NoLine k = k
points_change LineA k = record { a = false; b = k.b }
points_change LineB k = record { a = k.a; b = false }

-- ---- LINE and PT change points, and any other record readies the tables that it needs
abbrev pub asked_built : Desk → Both → TablesBuilt → Record → TablesBuilt
asked_built d t k q = built_after (needed_by q) k d.a d.b t.a t.b

abbrev pub record_built : Desk → Both → TablesBuilt → Record → TablesBuilt
record_built d t k (Start l) = points_change l k
record_built d t k (Pt x y) = points_change d.target k
record_built d t k (Near x y D allowance) = asked_built d t k (Near x y D allowance)
record_built d t k (In x y allowance) = asked_built d t k (In x y allowance)
record_built d t k (Meet allowance) = asked_built d t k (Meet allowance)
record_built d t k (Agree D allowance) = asked_built d t k (Agree D allowance)
record_built d t k NotUnderstood = asked_built d t k NotUnderstood

unfoldable pub text_built : Desk → Both → TablesBuilt → List ℕ → TablesBuilt
text_built d t k text = record_built (count_text d) t k (record_of text)

-- ---- a line feed ends a text line, and no other byte changes which are built
unfoldable pub byte_built : Carry → Slices → TablesBuilt → ℕ → TablesBuilt
byte_built c l k b = cond (eqb b line_feed) (text_built c.desk l.numbers.tables k c.pending) k

-- ---- byte after byte of a chunk
unfoldable pub chunk_built : Carry → Slices → TablesBuilt → List ℕ → TablesBuilt
chunk_built c l k [] = k
chunk_built c l k (b ∷ bs) = chunk_built (carry_byte c b) (byte_left c l b) (byte_built c l k b) bs

-- ---- a line whose table is built stays ready
pub record AllAsBuilt (k : TablesBuilt) (store_a store_b : Store) (t : Both) : Type 0 where
  pub a : AsBuilt k.a store_a t.a
  pub b : AsBuilt k.b store_b t.b

-- .. of the stores and tables that a state is carried beside
abbrev pub StateAsBuilt : State → List ℤ → List ℤ → List ℤ → List ℤ → Type 0
StateAsBuilt s a b table_a table_b =
    AllAsBuilt (built_in s) (store_in s.a a) (store_in s.b b) (both table_a table_b)
