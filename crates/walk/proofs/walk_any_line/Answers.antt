-- A line that begins or ends off the sheet is refused at its root, whose row it makes bad.
use mathlib.Core.Path.{sym, ◌∙◌}
use Rattle.walk.proofs.Root.{root-bad}
use Rattle.walk.proofs.walk_any_line.Goals as goal

pub returns-then-not-ends_on_sheet : goal.returns-then-not-ends_on_sheet
returns-then-not-ends_on_sheet g c l m =
    let a = c.args in
    rw c.bad_row_due.ensures
    (root-bad g.Q.Question.counting (g.Q.Question.tests a.question.now) l m a.tally c.requires
    (sym c.ends_on_sheet.ensures ∙ c.if-not-ends_on_sheet.true))
