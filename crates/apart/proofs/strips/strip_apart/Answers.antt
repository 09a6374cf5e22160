use Rattle.std.proofs.Common.{arith}
use Rattle.std.proofs.lemmas.Int.{to_z-of_z}
use Rattle.apart.proofs.Corners.{beyond-turned}
use Rattle.apart.proofs.strips.strip_apart.Goals as goal

pub returns-then-beyond : goal.returns-then-beyond
returns-then-beyond c = grind (arith, to_z-of_z, beyond-turned)

pub returns-else-beyond : goal.returns-else-beyond
returns-else-beyond c = grind (arith, to_z-of_z, beyond-turned)
