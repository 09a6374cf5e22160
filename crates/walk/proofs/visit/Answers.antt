-- `visit` asks for the frame of the row, and goes on by whether the node is a leaf.
use Rattle.std.proofs.Common.{sym, ◌∙◌}
use borrow.Author.Tests.{le-leb, lt-leb}
use Rattle.row.proofs.OneVisit.{points_on}
use Rattle.walk.proofs.Visits.{holds-start, frame-bad, leaf-visit, inner-visit}
use Rattle.walk.proofs.visit.Goals as goal

pub returns-then-not-frame_good : goal.returns-then-not-frame_good
returns-then-not-frame_good g c =
    let a = c.args in
    frame-bad (g.Q.Question.tests a.question.now) a.points.now a.table.now a.node c.requires.1 c.row_at-r.ensures
    (sym c.frame_good.ensures ∙ c.if-not-frame_good.true)

pub leaf_step-requires : goal.leaf_step-requires
leaf_step-requires g c =
    let n = c.args.node in
    let on = points_on c.requires.1 c.point_at-a.ensures c.point_at-b.ensures in
    (holds-start _ n.first n.last (sym c.frame_good.ensures ∙ c.if-not-frame_good.false), on.0, on.1)

pub returns-then-last-first : goal.returns-then-last-first
returns-then-last-first g c =
    let a = c.args in
    leaf-visit (g.Q.Question.tests a.question.now) a.points.now a.table.now a.node c.requires.1 c.row_at-r.ensures
    c.point_at-a.ensures c.point_at-b.ensures (sym c.frame_good.ensures ∙ c.if-not-frame_good.false)
    (le-leb _ _ c.if-last-first.true) c.leaf_step.ensures

pub inner_step-requires-clause-holds_start : goal.inner_step-requires-clause-holds_start
inner_step-requires-clause-holds_start g c =
    let n = c.args.node in
    let on = points_on c.requires.1 c.point_at-a.ensures c.point_at-b.ensures in
    (holds-start _ n.first n.last (sym c.frame_good.ensures ∙ c.if-not-frame_good.false), on.0, on.1)

pub returns : goal.returns
returns g c =
    let a = c.args in
    inner-visit (g.Q.Question.tests a.question.now) a.points.now a.table.now a.node c.requires.1 c.row_at-r.ensures
    c.point_at-a.ensures c.point_at-b.ensures (sym c.frame_good.ensures ∙ c.if-not-frame_good.false)
    (lt-leb _ _ c.if-last-first.false) c.inner_step.ensures
