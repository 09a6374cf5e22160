-- What readying the tables of a question comes to, in the words of the definitions.
use Rattle.std.specs.Prelude.{◌≡◌, Result, Ok, Err, is_ok, List, ℕ, ◌≤◌, ℤ, length, take}
use Rattle.rules.specs.declared.Line.{Line}
use Rattle.rules.specs.declared.Line.TheVariants.{LineA, LineB}
use Rattle.rules.specs.Sheet.{points_of, fewest}
use Rattle.rules.specs.declared.Reply.{Reply}
use Rattle.rules.specs.Build.{table_of}
use Rattle.table_truth.specs.Buildable.{row_numbers}
use Rattle.desk.specs.declared.Held.{Held}
use Rattle.desk.specs.Desk.{Store, with_table}
use Rattle.desk.specs.Kept.{store_in, Stored, table_room}
use Rattle.ready.specs.declared.Needed.{Needed}
use Rattle.ready.specs.declared.Needed.TheVariants.{NoTable, TableA, BothTables}
use Rattle.ready.specs.declared.StoredLine.{StoredLine}
use Rattle.ready.specs.declared.TablesBuilt.{TablesBuilt}
use Rattle.ready.specs.declared.Prepared.{Prepared}
use Rattle.ready.specs.Left.{is_ready, table_after, stand_ready, first_after, second_after, built_after, AsBuilt}

-- ---- a line as the code has it: the points at the front of its numbers
abbrev pub store_of : StoredLine → Store
store_of l = store_in l.held l.numbers.now

-- ---- a line as it is lent: its store, a table of its size, and a table that is built is as its build left it
pub record LentLine (h : Held) (numbers table : List ℤ) : Type 0 where
  pub stored : Stored h numbers
  pub room : length table ≡ table_room
  pub built : AsBuilt h.built (store_in h numbers) table

-- ---- the reply of a question whose tables stand ready, or what is told in its place
abbrev pub readied_reply : Result Unit Reply → Reply → Reply
readied_reply (Ok ready) reply = reply
readied_reply (Err told) reply = told

-- ---- the rows of a line stand at the front of its table
pub record Rows (ps t : List ℤ) : Type 0 where
  pub enough : fewest ≤ points_of ps
  pub fits : row_numbers ps ≤ length t
  pub front : take (row_numbers ps) t ≡ table_of ps

-- the rows of the lines whose tables are needed
abbrev pub HasRows : Needed → List ℤ → List ℤ → List ℤ → List ℤ → Type 0
HasRows NoTable ps t qs t' = Unit {0}
HasRows TableA ps t qs t' = Rows ps t
HasRows BothTables ps t qs t' = Rows ps t × Rows qs t'

-- ---- a question with the tables that it needs: A's, then B's; one that is not needed is as described
abbrev pub with_tables : Needed → Store → Store → ℕ → (List ℤ → List ℤ → Reply) → Reply
with_tables NoTable a b place go = go (table_of a.points) (table_of b.points)
with_tables TableA a b place go = with_table LineA a place (λ t. go t (table_of b.points))
with_tables BothTables a b place go = with_table LineA a place (λ t. with_table LineB b place (λ t'. go t t'))

-- ---- a line is readied: the reply of whatever is asked, whether it is, and what is left in its table
pub record ReadiesLine (l : Line) (s : Store) (place : ℕ) (table : List ℤ) (r : Result Unit Reply)
    (after : List ℤ) : Type 0 where
  pub reply : (go : List ℤ → Reply) → readied_reply r (go (table_of s.points)) ≡ with_table l s place go
  pub goes : is_ok r ≡ is_ready s table
  pub left : after ≡ table_after s table

-- .. and the tables that are needed
pub record Readies (k : Needed) (a b : Store) (place : ℕ) (was : TablesBuilt) (table_a table_b : List ℤ) (r : Prepared)
    (left_a left_b : List ℤ) : Type 0 where
  pub reply : (go : List ℤ → List ℤ → Reply)
      → readied_reply r.readied (go (table_of a.points) (table_of b.points)) ≡ with_tables k a b place go
  pub goes : is_ok r.readied ≡ stand_ready k a b table_a table_b
  pub first : left_a ≡ first_after k a table_a
  pub second : left_b ≡ second_after k a b table_a table_b
  pub built : r.built ≡ built_after k was a b table_a table_b
