-- Numbers: optional minus, 1 to 10 digits, no leading zero, no "-0", fitting i32 (allowance u32).
use Rattle.std.specs.Prelude.{Bool, not, cond, ◌&&◌, List, [], ◌∷◌, ℕ, ◌+◌, ◌*◌, ◌-◌, ◌^◌, eqb, leb, ltb, ℤ, pos, neg_ℤ, length, get_or, drop, Option, Some, None}
use Rattle.std.specs.Bool.{then_some}
use Rattle.std.specs.List.{list_all}
use Rattle.std.specs.Int.Signed.{le_z}

abbrev pub minus : ℕ
minus = 45

abbrev pub is_digit : ℕ → Bool
is_digit b = leb 48 b && leb b 57

unfoldable pub all_digits : List ℕ → Bool
all_digits = list_all is_digit

-- the number that digits write, after what is written already
unfoldable pub value_from : ℕ → List ℕ → ℕ
value_from v [] = v
value_from v (b ∷ bs) = value_from (10 * v + (b - 48)) bs

-- 1 to 10 digits, no leading zero
abbrev pub good_digits : List ℕ → Bool
good_digits ds =
    leb 1 (length ds) && leb (length ds) 10 && all_digits ds && not (ltb 1 (length ds) && eqb (get_or ds 0 0) 48)

-- optional minus; no "-0"
unfoldable pub numeral : List ℕ → Option ℤ
numeral f =
    cond (eqb (get_or f 0 0) minus)
    (then_some (good_digits (drop 1 f) && not (eqb (get_or f 1 0) 48)) (neg_ℤ (pos (value_from 0 (drop 1 f)))))
    (then_some (good_digits f) (pos (value_from 0 f)))

abbrev pub in_range : ℤ → ℤ → ℤ → Bool
in_range lo hi z = le_z lo z && le_z z hi

-- fitting i32
abbrev pub fits_i32 : ℤ → Bool
fits_i32 = in_range (neg_ℤ (pos (2 ^ 31))) (pos (2 ^ 31 - 1))

-- the allowance, fitting u32
abbrev pub fits_u32 : ℤ → Bool
fits_u32 = in_range (pos 0) (pos (2 ^ 32 - 1))

abbrev pub only_if : (ℤ → Bool) → Option ℤ → Option ℤ
only_if p None = None
only_if p (Some z) = then_some (p z) z
