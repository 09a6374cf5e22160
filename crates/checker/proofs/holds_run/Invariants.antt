-- Before point i is asked, the points between first and i are held.
use Rattle.std.proofs.Common.{ℕ, ◌<◌}
use lib.Dec.{T}
use Rattle.checker.proofs.Run.{held}
use Rattle.checker.proofs.holds_run.Given as goal

abbrev pub invariant-loop-i : goal.invariant-loop-i
invariant-loop-i l = (j : ℕ) → l.first < j → j < l.i → T (held l.points l.r l.first l.last j)
