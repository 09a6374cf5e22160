-- `ask_line` tells a line that begins or ends off the sheet from others.
use mathlib.Core.Path.{sym, ◌∙◌}
use mir.Syntax.{w64}
use mir.Facts.{to_z-of_z}
use Rattle.agree.proofs.ask_line.Goals as goal

pub returns-then-not-ends_on_sheet : goal.returns-then-not-ends_on_sheet
returns-then-not-ends_on_sheet c =
    let off = sym c.ends_on_sheet.ensures ∙ c.if-not-ends_on_sheet.true in
    c.bad_start.ensures.asks_all_off c.args.theirs.now.now c.args.table.now.now c.args.d c.requires.1 off

pub returns : goal.returns
returns c = rw (to_z-of_z {w = w64} c.ranges.d) at c.ask_all.ensures
