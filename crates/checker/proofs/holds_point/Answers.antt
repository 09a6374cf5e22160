-- `holds_point` asks c, t and the box; the row's numbers fit, so they are read as they are.
use Rattle.std.proofs.Common.{arith}
use Rattle.std.proofs.lemmas.Int.{to_z-of_z}
use Rattle.checker.proofs.holds_point.Goals as goal

pub returns : goal.returns
returns c = grind (arith, to_z-of_z)
