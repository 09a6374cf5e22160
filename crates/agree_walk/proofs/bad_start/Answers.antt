-- `bad_start` asks the first point, which is not near: it is off the sheet, or its walk meets the root's bad row.
use mathlib.Core.Path.{sym, ◌∙◌, ap}
use native.Mathlib.Omega.{arith}
use Rattle.rules.specs.declared.Point.{Point}
use Rattle.rules.specs.Sheet.{point, points_of, on_sheet}
use Rattle.rules.specs.Walk.{next}
use Rattle.ending.specs.Ending.{packed, bad_row, due}
use Rattle.ending.proofs.Ends.{end-in}
use Rattle.near_walk.proofs.Root.{root-bad}
use Rattle.agree_walk.specs.Asking.{OFF, asked}
use Rattle.agree_walk.proofs.Points.{reads-off, root-end, heard, one-point, first_stops}
use Rattle.agree_walk.proofs.bad_start.Goals as goal

pub returns-then-not-on_sheet-clause-asks_all_off : goal.returns-then-not-on_sheet-clause-asks_all_off
returns-then-not-on_sheet-clause-asks_all_off c theirs table d h off line other =
    let y = c.args.tally in
    let ps = c.args.points.now in
    let e = end-in y.visits OFF (omega arith) in
    let said = c.on_sheet.ensures ∙ ap (λ (p : Point). on_sheet p) c.point_at.ensures in
    ap (asked line other 0 y.allowance) c.pack.ensures
    ∙ first_stops line ps other theirs table d y.allowance (points_of ps) (packed y.visits OFF) y c.requires
    (λ q. omega (arith, e, q))
    (reads-off line other 0 y.allowance y.visits
    ∙ one-point line ps other theirs table d 0 y (sym said ∙ c.if-not-on_sheet.true))

pub returns-clause-asks_all_off : goal.returns-clause-asks_all_off
returns-clause-asks_all_off c theirs table d h off line other =
    let y = c.args.tally in
    let ps = c.args.points.now in
    let r = due (next y) bad_row in
    let e = root-end (next y) in
    let said = c.on_sheet.ensures ∙ ap (λ (p : Point). on_sheet p) c.point_at.ensures in
    ap (asked line other 0 y.allowance) c.bad_row_due.ensures
    ∙ first_stops line ps other theirs table d y.allowance (points_of ps) r y c.requires (λ q. omega (arith, e.0, q))
    (heard line other 0 y.allowance r (λ q. omega (arith, e.1, q)) (root-bad other other (point ps 0) d y h off)
    ∙ one-point line ps other theirs table d 0 y (sym said ∙ c.if-not-on_sheet.false))
