-- What std picks of two numbers is what the rules pick.
use mathlib.Core.Path.{◌≡◌}
use lib.IntN.{ℤ}
use Rattle.std.specs.Int.{int_min, int_max}
use Rattle.std.proofs.Common.{arith}
use Rattle.std.proofs.lemmas.Int.{ints}
use Rattle.integers.specs.Order.{min_z, max_z}

pub min-is : (x y : ℤ) → int_min x y ≡ min_z x y
min-is x y = grind (arith, ints)

pub max-is : (x y : ℤ) → int_max x y ≡ max_z x y
max-is x y = grind (arith, ints)
