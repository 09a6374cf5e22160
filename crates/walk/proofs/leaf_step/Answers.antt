-- The points of a leaf differ, so it heads along its step.
use Rattle.std.proofs.Common.{◌≡◌, true, false, sym, ◌∙◌, rules}
use Rattle.rules.specs.Plane.{direction}
use Rattle.line.proofs.Headings.{heads-along}
use Rattle.row.proofs.OneVisit.{points-differ}
use Rattle.walk.proofs.leaf_step.Goals as goal
use Rattle.walk.proofs.leaf_step.Goals.{else-not-dismisses_along-via-then-not-dismisses_along+else-meets}
use Rattle.walk.proofs.leaf_step.Goals.{else-not-dismisses_along-via-else-not-dismisses_along}

pub returns-then-meets : goal.returns-then-meets
returns-then-meets g c =
    let q = g.Q.Question.tests c.args.question.now in
    let good = sym c.leaf_good.ensures ∙ c.if-not-leaf_good.false in
    let heads = heads-along c.args.a c.args.b (points-differ c.args.r c.args.a c.args.b good) in
    let kept : q.dismisses c.args.r c.args.a (direction c.args.a c.args.b) ≡ false = cc in
    search rules

-- dismissed, or not met
pub returns : goal.returns
returns g c =
    let q = g.Q.Question.tests c.args.question.now in
    let good = sym c.leaf_good.ensures ∙ c.if-not-leaf_good.false in
    let heads = heads-along c.args.a c.args.b (points-differ c.args.r c.args.a c.args.b good) in
    elim c.else-not-dismisses_along.branch [
      | else-not-dismisses_along-via-then-not-dismisses_along+else-meets w ↦
          let kept : q.dismisses c.args.r c.args.a (direction c.args.a c.args.b) ≡ false = cc in
          search rules
      | else-not-dismisses_along-via-else-not-dismisses_along w ↦
          let dismissed : q.dismisses c.args.r c.args.a (direction c.args.a c.args.b) ≡ true = cc in
          search rules
    ]
