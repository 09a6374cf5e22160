-- `main`: what is held before each round is held past the bytes read so far.
use Rattle.std.proofs.Common.{◌-◌, ◌^◌}
use Rattle.records.specs.Holds.{slices_of}
use Rattle.reading.specs.After.{AfterBytes}
use Rattle.kneukelboom.proofs.main.Given as goal

abbrev pub invariant-loop-so_far : goal.invariant-loop-so_far
invariant-loop-so_far l = AfterBytes l.so_far l.desk.state (slices_of l.desk)

abbrev pub decreases-loop-so_far : goal.decreases-loop-so_far
decreases-loop-so_far l = 2 ^ 64 - l.so_far
