-- Before point i is read, what is found is what is measured up to the point before it.
use Rattle.std.proofs.Common.{◌≡◌, ◌-◌}
use Rattle.run.proofs.SoFar.{so_far}
use Rattle.run.proofs.measure.Given as goal

abbrev pub invariant-loop-i : goal.invariant-loop-i
invariant-loop-i l = l.m ≡ so_far l.fn.run l.last (l.i - 1)
