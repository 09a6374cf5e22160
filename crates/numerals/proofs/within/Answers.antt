-- `within`: a number, asked whether it lies from lo to hi.
use Rattle.std.proofs.Common.{arith}
use Rattle.std.proofs.lemmas.Int.{ints}
use Rattle.numerals.proofs.within.Goals as goal

pub returns : goal.returns
returns c = grind (arith, ints)
