-- The walk of a line that begins or ends off the sheet stops at its root: the visit that is due meets a bad row.
use mathlib.Core.Path.{◌≡◌, ap}
use mathlib.Core.Bool.{false}
use mathlib.Core.List.{List}
use native.Mathlib.Omega.{arith}
use lib.IntN.{ℤ}
use Rattle.rules.specs.declared.Line.{Line}
use Rattle.rules.specs.declared.Tally.{Tally}
use Rattle.rules.specs.Sheet.{segments_of}
use Rattle.rules.specs.Rows.{ends_good}
use Rattle.rules.specs.Walk.{next, walk}
use Rattle.rules.specs.Questions.{root}
use Rattle.visits.specs.Fine.{LengthsFine}
use Rattle.ending.specs.Ending.{bad_row, due, walked_in}
use Rattle.ending.proofs.Dues.{reads-bad-due}
use Rattle.row.proofs.Parts.{ends-off}
use Rattle.walk.specs.Tests.{Tests, Counting}
use Rattle.walk.specs.Steps.{step_visit}
use Rattle.walk.specs.Walks.{visit_of}
use Rattle.walk.proofs.Visits.{row-bad}

pub root-bad : {S : Type 0} (k : Counting S) (q : Tests) (l m : Line) {ps t : List ℤ} (y : Tally)
    → LengthsFine ps t → ends_good ps 0 (segments_of ps) ≡ false
    → walked_in k.even k.odd l m y.allowance (due (next y) bad_row)
    ≡ walk (visit_of k q ps t l) (segments_of ps) (root ps) k.even y
root-bad k q l m {ps} {t} y h e =
    let bad = ap (step_visit k.after l (root ps)) (row-bad q ps t (root ps) (ends-off ps _ 0 (segments_of ps) e)) in
    reads-bad-due k.even k.odd l m (visit_of k q ps t l) (root ps) k.even y (segments_of ps)
    (omega (arith, h.some-points)) 0 (omega arith) bad
