-- No row that a walk comes to through good rows is past the last, whatever points and table hold: a node of k segments
-- and its halves have 2k-1 rows, and a good row's split leaves each half a segment.
use mathlib.Core.List.{List}
use Prim.Native.Nat.{◌≤◌}
use lib.IntN.{ℤ}
use Rattle.rules.specs.declared.Node.{Node}
use Rattle.rules.specs.Sheet.{segments_of}
use Rattle.rules.specs.Tree.{row_count}
use Rattle.visits.specs.Nodes.{Fits}
use Rattle.visits.specs.Reached.{Reached, at-root, to-left, to-right, RowsBelow}
use Rattle.visits.proofs.Nodes.{good-inner, root-fits, fits-row, fits-left, fits-right}

module _ {ps t : List ℤ} (one : 1 ≤ segments_of ps) where
  reached-fits : {n : Node} → Reached ps t n → Fits (row_count (segments_of ps)) n
  reached-fits at-root = root-fits ps one
  reached-fits (to-left {n} h g more) = fits-left (reached-fits h) (good-inner ps t n g more)
  reached-fits (to-right {n} h g more) = fits-right (reached-fits h) (good-inner ps t n g more)

  -- of a node that is reached, its row and both halves' rows are below 2n-1
  pub reached-below : (n : Node) → Reached ps t n → RowsBelow ps t n
  reached-below n h = record {
    own = fits-row (reached-fits h);
    left = λ g more. fits-row (reached-fits (to-left h g more));
    right = λ g more. fits-row (reached-fits (to-right h g more));
  }
