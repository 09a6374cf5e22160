-- What a row is, and what it is at fault for, for the range that is handed down to it through good rows.
use Rattle.std.specs.Prelude.{◌≡◌, List, ℕ, ◌<◌, T, ℤ}
use Rattle.rules.specs.declared.Line.TheVariants.{LineA}
use Rattle.rules.specs.declared.Node.{Node}
use Rattle.rules.specs.declared.Refusal.{Refusal}
use Rattle.rules.specs.Sheet.{segments_of}
use Rattle.rules.specs.Tree.{row_at, row_count}
use Rattle.rules.specs.Build.{row_holds}
use Rattle.visits.specs.Nodes.{RowGood}
use Rattle.visits.specs.Reached.{Reached}

module _ (ps t : List ℤ) where
  -- strip and box of a node's row hold every point of its run
  abbrev pub RowHolds : Node → Type 0
  RowHolds n = T (row_holds ps (row_at t n.row) n.first n.last)

  -- 21 where the row is not good; 22 where it is, and leaves a point out
  pub data Fault (n : Node) : ℕ → Type 0 where
    not_good : ¬ RowGood ps t n → Fault n 21
    leaves-out : RowGood ps t n → ¬ RowHolds n → Fault n 22

  -- row k is handed a range, is good for it, and holds the points of it
  pub record FineRow (k : ℕ) : Type 0 where
    pub node : Node
    pub reached : Reached ps t node
    pub here : node.row ≡ k
    pub row-good : RowGood ps t node
    pub row-holds : RowHolds node

  abbrev pub EveryRowFine : Type 0
  EveryRowFine = (k : ℕ) → k < row_count (segments_of ps) → FineRow k

  -- a refusal tells a row that is at fault, and every lower row is fine
  pub record LowestFault (f : Refusal) : Type 0 where
    pub node : Node
    pub number : ℕ
    pub reached : Reached ps t node
    pub fault : Fault node number
    pub told : f ≡ record { number = number; line = LineA; place = node.row; visits = 0 }
    pub lower : (k : ℕ) → k < node.row → FineRow k
