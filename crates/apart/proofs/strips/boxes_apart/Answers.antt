use Rattle.std.proofs.Common.{arith}
use Rattle.std.proofs.lemmas.Int.{to_z-of_z}
use Rattle.apart.proofs.strips.boxes_apart.Goals as goal

pub returns-then-row_a-row_b-2 : goal.returns-then-row_a-row_b-2
returns-then-row_a-row_b-2 c = grind (arith, to_z-of_z)

pub returns-else-row_a-row_b-2 : goal.returns-else-row_a-row_b-2
returns-else-row_a-row_b-2 c = grind (arith, to_z-of_z)
