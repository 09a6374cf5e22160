-- Which nodes a walk comes to through good rows, whatever points and table hold and whatever a question dismisses; and
-- that the rows of such a node stand in the table.
use Rattle.std.specs.Prelude.{List, ◌+◌, ◌<◌, ℤ}
use Rattle.rules.specs.declared.Node.{Node}
use Rattle.rules.specs.declared.Pair.{Pair}
use Rattle.rules.specs.Sheet.{segments_of}
use Rattle.rules.specs.Tree.{row_at, row_count}
use Rattle.rules.specs.Questions.{root, left_of, right_of, split_in}
use Rattle.visits.specs.Nodes.{RowGood}

-- the halves of a node, at the split that its row tells
abbrev pub left_half : List ℤ → Node → Node
left_half t n = left_of n (split_in (row_at t n.row))

abbrev pub right_half : List ℤ → Node → Node
right_half t n = right_of n (split_in (row_at t n.row))

-- the root; and both halves of a node that is reached, has more than one segment, and whose row is good
pub data Reached (ps t : List ℤ) : Node → Type 0 where
  at-root : Reached ps t (root ps)
  to-left : {n : Node} → Reached ps t n → RowGood ps t n → n.first + 1 < n.last → Reached ps t (left_half t n)
  to-right : {n : Node} → Reached ps t n → RowGood ps t n → n.first + 1 < n.last → Reached ps t (right_half t n)

-- a node's row is below 2n-1
abbrev pub Below : List ℤ → Node → Type 0
Below ps n = n.row < row_count (segments_of ps)

-- a node's own row is so, and, where that is good and the node has more than one segment, the rows of both its halves
pub record RowsBelow (ps t : List ℤ) (n : Node) : Type 0 where
  pub own : Below ps n
  pub left : RowGood ps t n → n.first + 1 < n.last → Below ps (left_half t n)
  pub right : RowGood ps t n → n.first + 1 < n.last → Below ps (right_half t n)

-- of a pair, both nodes
abbrev pub PairReached : List ℤ → List ℤ → List ℤ → List ℤ → Pair → Type 0
PairReached ps t qs t' n = Reached ps t n.a × Reached qs t' n.b

abbrev pub PairBelow : List ℤ → List ℤ → List ℤ → List ℤ → Pair → Type 0
PairBelow ps t qs t' n = RowsBelow ps t n.a × RowsBelow qs t' n.b
