-- Digits, one after another, and the number that they write.
use Rattle.std.proofs.Common.{◌≡◌, ◌≢◌, true, List, [], ◌∷◌, ℕ, suc, ◌+◌, ◌*◌, ◌-◌, ◌^◌, ◌≤◌, ◌<◌, length, get_or, drop, arith, Some, None, ℤ, pos, neg_ℤ, option_map, add-one, drop-cons, drop_of_length-le, w64, to_z, of_z, ◌-ℤ◌}
use Rattle.std.proofs.Math.Nat.{le_refl, lt_of_lt_of_le, mul-le-mul_right, mul_assoc, pow-succ', pow-le-pow_right}
use Rattle.std.proofs.lemmas.Bool.Decides.{nat_tests}
use Rattle.std.proofs.lemmas.Int.{ints}
use Rattle.std.specs.Bool.{then_some}
use Rattle.numerals.specs.Numerals.{minus, all_digits, value_from, good_digits, numeral}

-- ---- the number that digits write

-- more digits write no lesser number
value_grows : (v : ℕ) (bs : List ℕ) → v ≤ value_from v bs
unfolding value_from
value_grows v [] = le_refl v
value_grows v (b ∷ bs) = omega (arith, value_grows (10 * v + (b - 48)) bs)

-- a digit lies from 48 to 57
digit_first : (b : ℕ) (bs : List ℕ) → all_digits (b ∷ bs) ≡ true → (48 ≤ b) × (b ≤ 57) × (all_digits bs ≡ true)
unfolding all_digits
digit_first b bs e = grind (arith, nat_tests)

-- n digits more write less than the next number with n zeros more
value-below : (v : ℕ) (bs : List ℕ) → all_digits bs ≡ true → value_from v bs < suc v * 10 ^ length bs
unfolding value_from
value-below v [] e = omega arith
value-below v (b ∷ bs) e =
    let d = digit_first b bs e in
    let more : suc (10 * v + (b - 48)) ≤ suc v * 10 = omega arith in
    rw (pow-succ' 10 (length bs), ← mul_assoc (suc v) 10 (10 ^ length bs))
    (lt_of_lt_of_le (value-below (10 * v + (b - 48)) bs d.2) (mul-le-mul_right (10 ^ length bs) more))

-- ten digits write less than 10^10
pub good-value : (ds : List ℕ) → good_digits ds ≡ true → (all_digits ds ≡ true) × (value_from 0 ds < 10000000000)
good-value ds e =
    let g : (all_digits ds ≡ true) × (length ds ≤ 10) = grind (arith, nat_tests) in
    let most : 10 ^ length ds ≤ 10 ^ 10 = pow-le-pow_right (omega arith) g.1 in
    (g.0, omega (arith, value-below 0 ds g.0))

-- byte i is a digit, and so are those after it; what is written with it is no more than the whole number
pub record Step (f : List ℕ) (v i : ℕ) : Type 0 where
  pub least : 48 ≤ get_or f i 0
  pub most : get_or f i 0 ≤ 57
  pub digits : all_digits (drop (i + 1) f) ≡ true
  pub value : value_from v (drop i f) ≡ value_from (10 * v + (get_or f i 0 - 48)) (drop (i + 1) f)
  pub below : 10 * v + (get_or f i 0 - 48) ≤ value_from v (drop i f)

pub step : (f : List ℕ) (v i : ℕ) → i < length f → all_digits (drop i f) ≡ true → Step f v i
unfolding value_from
step f v i h e =
    let d = digit_first (get_or f i 0) (drop (suc i) f) (rw (drop-cons f i 0) at e) in
    record {
      least = d.0;
      most = d.1;
      digits = rw add-one d.2;
      value = rw (add-one, drop-cons f i 0);
      below = rw (drop-cons f i 0) (value_grows (10 * v + (get_or f i 0 - 48)) (drop (suc i) f));
    }

-- past the last digit the number is written
pub value-end : (f : List ℕ) (v i : ℕ) → length f ≤ i → value_from v (drop i f) ≡ v
unfolding value_from
value-end f v i h = rw (drop_of_length-le f h)

pub ruleset digits = (step, good-value, value-end)

-- ---- with and without a minus

-- no "-0"
pub numeral-minus_zero : (f : List ℕ) → get_or f 0 0 ≡ minus → get_or f 1 0 ≡ 48 → numeral f ≡ None
unfolding numeral
numeral-minus_zero f p q = grind (arith, nat_tests)

pub numeral-minus : (f : List ℕ) → get_or f 0 0 ≡ minus → get_or f 1 0 ≢ 48 →
    numeral f ≡ option_map neg_ℤ (then_some (good_digits (drop 1 f)) (pos (value_from 0 (drop 1 f))))
unfolding numeral
numeral-minus f p q = grind (arith, nat_tests)

pub numeral-digits : (f : List ℕ) → get_or f 0 0 ≢ minus → numeral f ≡ then_some (good_digits f) (pos (value_from 0 f))
unfolding numeral
numeral-digits f p = grind (arith, nat_tests)

-- as machine integers a magnitude and its negative are themselves
pub negated : (ds : List ℕ) (z : ℤ) → Some z ≡ then_some (good_digits ds) (pos (value_from 0 ds)) →
    to_z w64 (of_z w64 (pos 0 -ℤ to_z w64 (of_z w64 z))) ≡ neg_ℤ z
negated ds z e = grind (arith, ints, good-value)

pub ruleset numerals = (numeral-minus_zero, numeral-minus, numeral-digits)
