-- What a visit may count on: a node that lies inside its line and its table.
use Rattle.std.specs.Prelude.{List, ℕ, ◌≤◌, T, ℤ}
use Rattle.rules.specs.declared.Node.{Node}
use Rattle.rules.specs.Sheet.{point, segments_of, on_sheet}
use Rattle.rules.specs.Tree.{row_count}
use Rattle.visits.specs.Fine.{LengthsFine}
use Rattle.visits.specs.Nodes.{Fits}

-- a node by its numbers
abbrev pub node_at : ℕ → ℕ → ℕ → Node
node_at row first last = record { row = row; first = first; last = last }

-- a node has a segment, its 2k-1 rows are the table's, and its points are the line's
pub record Stands (ps t : List ℤ) (n : Node) : Type 0 where
  pub fine : LengthsFine ps t
  pub fits : Fits (row_count (segments_of ps)) n
  pub points-in : n.last ≤ segments_of ps

-- a node begins and ends on the sheet
pub record EndsOn (ps : List ℤ) (n : Node) : Type 0 where
  pub start-on : T (on_sheet (point ps n.first))
  pub end_on : T (on_sheet (point ps n.last))
