-- Where a node stands: the root stands inside its line and its table, and so do the halves of a node that does.
use mathlib.Core.List.{List}
use Prim.Native.Nat.{ℕ, ◌<◌}
use native.Mathlib.Omega.{arith}
use lib.Dec.{T}
use lib.IntN.{ℤ}
use mir.Facts.{and_yes}
use Rattle.rules.specs.declared.Node.{Node}
use Rattle.rules.specs.Sheet.{point, segments_of, on_sheet}
use Rattle.rules.specs.Tree.{most_rows}
use Rattle.rules.specs.Rows.{ends_good}
use Rattle.rules.specs.Questions.{root, left_of, right_of}
use Rattle.visits.specs.Fine.{LengthsFine}
use Rattle.visits.specs.Nodes.{Inner}
use Rattle.visits.proofs.Nodes.{root-fits, fits-row, fits-left, fits-right}
use Rattle.row.specs.Stands.{Stands, EndsOn}

pub root_stands : {ps t : List ℤ} → LengthsFine ps t → Stands ps t (root ps)
root_stands {ps} f = record { fine = f; fits = root-fits ps (omega (arith, f.some-points)); points-in = omega arith }

module _ {ps t : List ℤ} {n : Node} (h : Stands ps t n) where
  pub row_small : n.row < most_rows
  row_small = omega (arith, fits-row h.fits, h.fine.not_more)

  module _ {s : ℕ} (inner : Inner n.first s n.last) where
    pub left-stands : Stands ps t (left_of n s)
    left-stands = record {
      fine = h.fine;
      fits = fits-left h.fits inner;
      points-in = omega (arith, inner.below, h.points-in);
    }

    pub right-stands : Stands ps t (right_of n s)
    right-stands = record { fine = h.fine; fits = fits-right h.fits inner; points-in = h.points-in }

-- ---------------- where a line begins and ends on the sheet so does its root, and so do halves that share a point on
-- it
pub root_ends : {ps : List ℤ} → T (ends_good ps 0 (segments_of ps)) → EndsOn ps (root ps)
root_ends {ps} h =
    let k = and_yes (on_sheet (point ps 0)) (on_sheet (point ps (segments_of ps))) h in
    record { start-on = k.0; end_on = k.1 }

module _ {ps : List ℤ} {n : Node} (h : EndsOn ps n) {s : ℕ} (on : T (on_sheet (point ps s))) where
  pub left-ends : EndsOn ps (left_of n s)
  left-ends = record { start-on = h.start-on; end_on = on }

  pub right-ends : EndsOn ps (right_of n s)
  right-ends = record { start-on = on; end_on = h.end_on }
