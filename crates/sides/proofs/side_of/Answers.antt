-- `side_of` is c of z, read back.
use Rattle.std.proofs.Common.{arith}
use Rattle.std.proofs.lemmas.Int.{to_z-of_z}
use Rattle.sides.proofs.side_of.Goals as goal

pub returns : goal.returns
returns c = grind (arith, to_z-of_z)
