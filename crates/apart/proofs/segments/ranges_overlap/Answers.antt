-- `ranges_overlap` compares what it picked.
use Rattle.std.proofs.Common.{arith}
use Rattle.std.proofs.lemmas.Int.{to_z-of_z}
use Rattle.line.proofs.Picks.{min-is, max-is}
use Rattle.apart.proofs.segments.ranges_overlap.Goals as goal

pub returns-then-min-max : goal.returns-then-min-max
returns-then-min-max c = grind (arith, to_z-of_z, min-is, max-is)

pub returns-else-min-max : goal.returns-else-min-max
returns-else-min-max c = grind (arith, to_z-of_z, min-is, max-is)
