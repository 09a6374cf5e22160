-- The split rule (docs/RULES.md, section 2.3), as what holds of the split s of a node: it is an inner point, and no
-- inner point i is better.
use Rattle.std.specs.Prelude.{◌≡◌, List, ℕ, ◌≤◌, ◌<◌, ℤ}
use Rattle.rules.specs.Tree.{height, off_middle}
use Rattle.visits.specs.Nodes.{Inner}

-- s has the greatest absolute c; of equals, the smallest |2i - first - last|; of equals again, it is the lower
pub record AsGood (ps : List ℤ) (first last s i : ℕ) : Type 0 where
  pub high : height ps first last i ≤ height ps first last s
  pub middle : height ps first last i ≡ height ps first last s → off_middle first last s ≤ off_middle first last i
  pub lower : height ps first last i ≡ height ps first last s → off_middle first last i ≡ off_middle first last s → s ≤ i

pub record BestSplit (ps : List ℤ) (first last s : ℕ) : Type 0 where
  pub inner : Inner first s last
  pub best : (i : ℕ) → first < i → i < last → AsGood ps first last s i
