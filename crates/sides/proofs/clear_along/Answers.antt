use Rattle.std.proofs.Common.{arith}
use Rattle.std.proofs.lemmas.Int.{to_z-of_z}
use Rattle.rules.specs.Questions.{clear_of}
use Rattle.sides.proofs.clear_along.Goals as goal

pub returns-then-outside-3 : goal.returns-then-outside-3
unfolding clear_of
returns-then-outside-3 c = grind (arith, to_z-of_z)

pub returns-else-outside-3 : goal.returns-else-outside-3
unfolding clear_of
returns-else-outside-3 c = grind (arith, to_z-of_z)
