-- A point is asked, and where it is near then those after it; the distance is handed on as it is.
use mathlib.Core.Path.{◌≡◌, ◌∙◌}
use Prim.Native.Nat.{◌-◌}
use native.Mathlib.Omega.{arith}
use Rattle.rules.specs.Sheet.{points_of}
use Rattle.line.proofs.Stored.{stored}
use Rattle.ending.specs.Ending.{end_in, tally_in}
use Rattle.agree_walk.proofs.Points.{is-near, stops, point-asked, no-point}
use Rattle.agree_walk.proofs.ask_all.Goals as goal

pub returns-then-end_in-ne-ENDED : goal.returns-then-end_in-ne-ENDED
returns-then-end_in-ne-ENDED c line other =
    let a = c.args in
    let l = c.loop-i in
    let said = rw (stored c.requires.2 tt, c.tally_in-rest.ensures) at (c.ask_point-ending.ensures line other) in
    stops line other l.i a.tally.allowance c.ask_point-ending.result _
    (λ q. c.if-end_in-ne-ENDED.true (c.end_in.ensures ∙ q))
    ∙ point-asked line a.points.now other a.theirs.now.now a.table.now.now a.d (points_of a.points.now) l.i
    (tally_in a.tally.allowance l.ending) c.loop-i-test.true said
    (rw (stored c.requires.2 tt) at (l.invariant.1 line other))

pub loop-i-preserved : goal.loop-i-preserved
loop-i-preserved c =
    let a = c.args in
    let l = c.loop-i in
    let near : end_in c.ask_point-ending.result ≡ 2 = omega (arith, c.end_in.ensures, c.if-end_in-ne-ENDED.false) in (
      near,
      λ line other.
          let said = rw (stored c.requires.2 tt, c.tally_in-rest.ensures) at (c.ask_point-ending.ensures line other) in
          rw (is-near line other l.i a.tally.allowance c.ask_point-ending.result near, ← stored c.requires.2 tt)
          at (point-asked line a.points.now other a.theirs.now.now a.table.now.now a.d (points_of a.points.now) l.i
          (tally_in a.tally.allowance l.ending) c.loop-i-test.true said
          (rw (stored c.requires.2 tt) at (l.invariant.1 line other))),
    )

pub returns : goal.returns
returns c line other =
    let a = c.args in
    let l = c.loop-i in
    let none : points_of a.points.now - l.i ≡ 0 = omega (arith, c.loop-i-test.false) in
    is-near line other (points_of a.points.now) a.tally.allowance l.ending l.invariant.0
    ∙ no-point line a.points.now other a.theirs.now.now a.table.now.now a.d l.i (points_of a.points.now - l.i)
    (tally_in a.tally.allowance l.ending) none
    ∙ rw (stored c.requires.2 tt) at (l.invariant.1 line other)
