use Rattle.std.proofs.Common.{arith}
use Rattle.std.proofs.lemmas.Int.{to_z-of_z}
use Rattle.line.proofs.Picks.{min-is, max-is}
use Rattle.sides.proofs.range_holds.Goals as goal

pub returns : goal.returns
returns c = grind (arith, to_z-of_z, min-is, max-is)
