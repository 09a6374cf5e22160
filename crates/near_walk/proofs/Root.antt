-- What the walk with NEAR's tests comes to is what `rules` writes of NEAR.
use mathlib.Core.Path.{◌≡◌, ◌∙◌, ap}
use mathlib.Core.Bool.{false}
use mathlib.Core.List.{List}
use lib.IntN.{ℤ}
use Rattle.rules.specs.declared.Line.{Line}
use Rattle.rules.specs.declared.Node.{Node}
use Rattle.rules.specs.declared.Point.{Point}
use Rattle.rules.specs.declared.Tally.{Tally}
use Rattle.rules.specs.Sheet.{segments_of}
use Rattle.rules.specs.Rows.{ends_good}
use Rattle.rules.specs.Walk.{next, Visit, walk}
use Rattle.rules.specs.Questions.{Nothing, root, near_walk}
use Rattle.visits.specs.Fine.{LengthsFine}
use Rattle.ending.specs.Ending.{bad_row, due, walked_in}
use Rattle.walk.specs.Walks.{visit_of}
use Rattle.walk.proofs.Root.{root-bad as walk-stops}
use Rattle.near_visit.specs.Tests.{nothing_counted, near_tests}
use Rattle.near_visit.proofs.Visits.{visits-near}

pub walks-near : (l : Line) (ps t : List ℤ) (z : Point) (D : ℤ) (y : Tally)
    → walk (visit_of nothing_counted (near_tests z D) ps t l) (segments_of ps) (root ps) tt y ≡ near_walk l ps t z D y
walks-near l ps t z D y =
    ap (λ (v : Node → Visit Nothing Node). walk v (segments_of ps) (root ps) tt y) (visits-near l ps t z D)

-- the walk of a line that begins or ends off the sheet stops at its root: the visit that is due meets a bad row
pub root-bad : (l m : Line) {ps t : List ℤ} (z : Point) (D : ℤ) (y : Tally)
    → LengthsFine ps t → ends_good ps 0 (segments_of ps) ≡ false
    → walked_in tt tt l m y.allowance (due (next y) bad_row) ≡ near_walk l ps t z D y
root-bad l m {ps} {t} z D y h e = walk-stops nothing_counted (near_tests z D) l m y h e ∙ walks-near l ps t z D y
