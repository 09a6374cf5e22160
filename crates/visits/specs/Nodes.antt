-- What is known of a node, each fact under one name: where its split lies, where its rows stand, what its row is.
use Rattle.std.specs.Prelude.{List, ℕ, ◌+◌, ◌*◌, ◌≤◌, ◌<◌, T, ℤ, pos, ◌≤ℤ◌}
use Rattle.rules.specs.declared.Node.{Node}
use Rattle.rules.specs.declared.Row.{Row}
use Rattle.rules.specs.Tree.{row_at}
use Rattle.rules.specs.Rows.{good}

-- a split is an inner point of the run from first to last
pub record Inner (first split last : ℕ) : Type 0 where
  pub above : first < split
  pub below : split < last

-- a node of k segments, one or more, has 2k-1 rows, all among the table's
pub record Fits (rows : ℕ) (n : Node) : Type 0 where
  pub some-segment : n.first < n.last
  pub rows_in : n.row + 2 * n.last ≤ rows + 2 * n.first + 1

-- the row of a node is good for the range handed down
abbrev pub RowGood : List ℤ → List ℤ → Node → Type 0
RowGood ps t n = T (good ps (row_at t n.row) n.first n.last)

-- the strip of a row holds the start of the run, whose c and t are 0
pub record HoldsStart (r : Row) : Type 0 where
  pub cmin-low : r.cmin ≤ℤ pos 0
  pub cmax-high : pos 0 ≤ℤ r.cmax
  pub tmin-low : r.tmin ≤ℤ pos 0
  pub tmax-high : pos 0 ≤ℤ r.tmax
