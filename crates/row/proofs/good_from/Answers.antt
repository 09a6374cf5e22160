-- `good_from` asks whether the last point is on the sheet, then for all else.
use Rattle.std.proofs.Common.{arith}
use Rattle.row.proofs.Parts.{end-off}
use Rattle.row.proofs.good_from.Goals as goal

pub returns-else-on_sheet : goal.returns-else-on_sheet
returns-else-on_sheet c =
    let a = c.args in
    let off = end-off a.points.now a.r a.first a.last in grind (arith, off)
