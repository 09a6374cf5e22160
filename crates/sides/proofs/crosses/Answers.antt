-- `crosses` takes the lower end for the low one, which the other end cannot be.
use mathlib.Core.Path.{◌≡◌, refl, sym, ◌∙◌}
use mathlib.Core.Bool.{Bool, true, false, ◌&&◌, ◌||◌, or-false}
use lib.IntN.{pos}
use lib.Signed.{le_z, lt_z, ◌≤ℤ◌}
use Rattle.integers.specs.Order.{≤ℤ-trans, lt-false, le_yes}
use Rattle.rules.specs.declared.Point.{Point}
use Rattle.rules.specs.Plain.{low_high, side_of, crosses}
use Rattle.std.proofs.Common.{arith}
use Rattle.std.proofs.lemmas.Int.{ints, to_z-of_z}
use Rattle.sides.proofs.crosses.Goals as goal

abbrev rising : Point → Point → Point → Bool
rising z l h = low_high z l h && lt_z (pos 0) (side_of z l h)

-- nothing rises to an end that is not higher
no-rise : (z l h : Point) → h.y ≤ℤ l.y → rising z l h ≡ false
no-rise z l h k = by (le_z l.y z.y) refl
  where
    by : (b : Bool) → le_z l.y z.y ≡ b → b && lt_z z.y h.y && lt_z (pos 0) (side_of z l h) ≡ false
    by true e = λ d. lt-false (≤ℤ-trans k (le_yes refl refl e)) d && lt_z (pos 0) (side_of z l h)
    by false e = refl

-- so a segment crosses as its lower end rises to the other
falling : (z a b : Point) → b.y ≤ℤ a.y → rising z b a ≡ crosses z a b
unfolding crosses
falling z a b k = sym (λ d. no-rise z a b k d || rising z b a)

climbing : (z a b : Point) → a.y ≤ℤ b.y → rising z a b ≡ crosses z a b
unfolding crosses
climbing z a b k = sym ((λ d. rising z a b || no-rise z b a k d) ∙ or-false (rising z a b))

pub returns : goal.returns
returns c = grind (arith, ints, to_z-of_z, falling, climbing)
