use Rattle.std.proofs.Common.{arith}
use Rattle.std.proofs.lemmas.Int.{to_z-of_z}
use Rattle.apart.proofs.segments.boxes_overlap.Goals as goal

pub returns-then-ranges_overlap : goal.returns-then-ranges_overlap
returns-then-ranges_overlap c = grind (arith, to_z-of_z)

pub returns-else-ranges_overlap : goal.returns-else-ranges_overlap
returns-else-ranges_overlap c = grind (arith, to_z-of_z)
