-- What the rules say of a node's two halves, read from the table: the left child's row is the next, the right
-- child's 2*(split - first) rows on, both halves share the split point, and no child's row reaches 2n-1.
use mathlib.Core.Path.{◌≡◌, refl, sym, ◌∙◌}
use mathlib.Core.List.{List, ◌++◌}
use mathlib.Core.Logic.{⊎_elim}
use Prim.Native.Nat.{ℕ, zero, suc, ◌+◌, ◌*◌, ◌-◌, ◌≤◌, ◌<◌}
use native.Mathlib.Omega.{arith}
use lib.IntN.{ℤ, pos}
use Rattle.rules.specs.declared.Node.{Node}
use Rattle.rules.specs.declared.Row.{Row}
use Rattle.rules.specs.Sheet.{segments_of}
use Rattle.rules.specs.Tree.{split_of, row_at, measured, rows_of, row_count}
use Rattle.rules.specs.Questions.{left_of, right_of}
use Rattle.visits.specs.Nodes.{Fits}
use Rattle.visits.proofs.Nodes.{fits-row, fits-left, fits-right}
use Rattle.table_truth.proofs.Rows.{split_between, leaf-or-inner, row-start, leaf-front, inner-front}
use Rattle.table_truth.proofs.Rows.{left-rows, right-rows}

-- the row at the front of a run's rows has the run's range
pub record Covers (r : Row) (first last : ℕ) : Type 0 where
  pub from : r.first ≡ pos first
  pub upto : r.last ≡ pos last

measured-covers : (ps : List ℤ) (first last : ℕ) (s : ℤ) → Covers (measured ps first last s) first last
unfolding measured
measured-covers ps first last s = record { from = refl; upto = refl }

front-covers : (f : ℕ) (ps : List ℤ) (first last : ℕ) (rest : List ℤ) → 0 < f
    → Covers (row_at (rows_of f ps first last ++ rest) 0) first last
front-covers zero ps first last rest k = absurd (omega arith)
front-covers (suc f) ps first last rest k =
    ⊎_elim (λ l. rw (leaf-front (suc f) ps first last rest l k) (measured-covers ps first last _))
    (λ l. rw (inner-front f ps first last rest l) (measured-covers ps first last _)) (leaf-or-inner first last)

module _ (f : ℕ) (ps : List ℤ) (first last : ℕ) (rest : List ℤ) (inner : first + 1 < last)
    (enough : last ≤ suc f + first) where
  -- the table that begins with the rows of the run, and the run's split
  abbrev begun : List ℤ
  begun = rows_of (suc f) ps first last ++ rest

  abbrev s : ℕ
  s = split_of ps first last

  some_level : 0 < f
  some_level = let b = split_between ps first last inner in omega arith

  -- the next row covers the left half, from first to the split point
  pub left-covers : Covers (row_at begun 1) first s
  left-covers =
      rw (row-start begun 1, left-rows f ps first last rest inner) (front-covers f ps first s _ some_level)

  -- the row 2*(split - first) rows on covers the right half, from the split point to last
  pub right-covers : Covers (row_at begun (2 * (s - first))) s last
  right-covers =
      rw (row-start begun (2 * (s - first)), right-rows f ps first last rest inner enough)
      (front-covers f ps s last rest some_level)

  -- both halves share the split point
  pub halves-share : (row_at begun 1).last ≡ (row_at begun (2 * (s - first))).first
  halves-share = left-covers.upto ∙ sym right-covers.from

-- no child's row reaches 2n-1
pub children-below : (ps : List ℤ) (n : Node) → Fits (row_count (segments_of ps)) n → n.first + 1 < n.last
    → ((left_of n (split_of ps n.first n.last)).row < row_count (segments_of ps))
    × ((right_of n (split_of ps n.first n.last)).row < row_count (segments_of ps))
children-below ps n h l =
    let i = split_between ps n.first n.last l in (fits-row (fits-left h i), fits-row (fits-right h i))
