-- What the points from i on come to, from the visits so far, is what they all come to.
use mathlib.Core.Path.{◌≡◌}
use Prim.Native.Nat.{◌-◌}
use Rattle.rules.specs.declared.Line.{Line}
use Rattle.rules.specs.Questions.{ask_all}
use Rattle.ending.specs.Ending.{end_in, tally_in}
use Rattle.agree_walk.proofs.ask_all.Given as goal

abbrev pub invariant-loop-i : goal.invariant-loop-i
invariant-loop-i l =
    (end_in l.ending ≡ 2)
    × ((line other : Line)
    → ask_all line l.points other l.theirs.now l.table.now l.d l.i (l.count - l.i) (tally_in l.tally.allowance l.ending)
    ≡ ask_all line l.points other l.theirs.now l.table.now l.d 0 l.count l.tally)
