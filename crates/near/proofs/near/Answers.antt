-- `near` tells the first refusal; where no check refuses, the walk answers.
use mathlib.Core.Path.{◌∙◌, ap}
use mir.Syntax.{w64}
use mir.Facts.{to_z-of_z}
use Rattle.rules.specs.declared.Line.TheVariants.{LineA, LineB}
use Rattle.rules.specs.Questions.{yes_or_no}
use Rattle.limits.proofs.OnSheets.{on-sheet}
use Rattle.line.proofs.Stored.{stored-abs}
use Rattle.reach.proofs.Sizes.{distance-abs}
use Rattle.near.proofs.Replies.{near-checked, near-fine}
use Rattle.near.proofs.near.Goals as goal

-- the distance is stored in 64 bits, and read back as it is
pub returns-in-Err : goal.returns-in-Err
returns-in-Err c =
    let d = to_z-of_z {w = w64} c.ranges.distance in
    c.refuses.ensures ∙ near-checked _ _ _ _ _ (rw d at c.in-Err.ensures)

pub ask_any-ending-requires : goal.ask_any-ending-requires
ask_any-ending-requires c =
    let d = to_z-of_z {w = w64} c.ranges.distance in
    let fine = near-fine c.args.points.now c.args.table.now c.args.z c.args.distance (rw d at c.in_default.ensures) in
    (fine.0, on-sheet _ fine.2, stored-abs (distance-abs c.args.distance fine.1) tt)

pub returns : goal.returns
returns c =
    let d = to_z-of_z {w = w64} c.ranges.distance in
    c.answer.ensures
    ∙ ap (yes_or_no c.args.allowance) (rw (d, c.fresh.ensures) at (c.ask_any-ending.ensures LineA LineB))
    ∙ near-checked _ _ _ _ _ (rw d at c.in_default.ensures)
