-- What the functions of `meet_visit` may count on: nodes that lie inside their lines and tables, with good rows.
use Rattle.std.specs.Prelude.{Bool, List, ℕ, ◌+◌, ◌*◌, ◌<◌, ◌≤◌, T, ℤ, pos, nat_abs, length, ◌≤ℤ◌}
use Rattle.rules.specs.declared.Node.{Node}
use Rattle.rules.specs.declared.Pair.{Pair}
use Rattle.rules.specs.declared.Row.{Row}
use Rattle.rules.specs.Tree.{width, row_at}
use Rattle.rules.specs.Rows.{good}
use Rattle.visits.specs.Nodes.{RowGood}
use Rattle.row.specs.Stands.{Stands}
use Rattle.meet_visit.specs.declared.Rows.{Rows}

-- whether the row of a node is good
abbrev pub good_at : List ℤ → List ℤ → Node → Bool
good_at ps t n = good ps (row_at t n.row) n.first n.last

-- a node stands in its line and table, and its row is good
pub record NodeStands (ps t : List ℤ) (n : Node) : Type 0 where
  pub stands : Stands ps t n
  pub row-good : RowGood ps t n

-- so do both nodes of a pair
pub record PairStands (ps t qs t' : List ℤ) (n : Pair) : Type 0 where
  pub of-a : NodeStands ps t n.a
  pub of-b : NodeStands qs t' n.b

-- ---------------- a pair as the rows of its nodes
-- the node that a row tells of
abbrev pub node_in : List ℤ → ℕ → Node
node_in t row = record { row = row; first = nat_abs (row_at t row).first; last = nat_abs (row_at t row).last }

abbrev pub pair_in : List ℤ → List ℤ → Rows → Pair
pair_in t t' rows = record { a = node_in t rows.a; b = node_in t' rows.b }

-- a row is in its table, and its range is one of numbers of points
pub record TellsNode (t : List ℤ) (row : ℕ) : Type 0 where
  pub in_table : width * row + width ≤ length t
  pub first_above : pos 0 ≤ℤ (row_at t row).first
  pub last-above : pos 0 ≤ℤ (row_at t row).last

-- ---------------- what is read of a node
-- a node stands, with some table, and its row was read and is good
pub record Read (ps : List ℤ) (r : Row) (n : Node) : Type 0 where
  pub table : List ℤ
  pub stands : Stands ps table n
  pub row-good : T (good ps r n.first n.last)

-- a node has a segment, and where it has more, its row a split
pub record HasSplit (r : Row) (n : Node) : Type 0 where
  pub some-segment : n.first < n.last
  pub split-above : n.first + 1 < n.last → pos 0 ≤ℤ r.split
