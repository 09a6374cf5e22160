-- g² + h² compared with reach·v: how large both sides are, with g + h more on both, and of signed numbers.
use Rattle.std.proofs.Common.{◌≡◌, ℕ, ◌+◌, ◌*◌, ◌^◌, ◌<◌, ◌≤◌, ltb, ℤ, pos, negsuc, ◌+ℤ◌, ◌*ℤ◌, nat_abs, ◌≤ℤ◌, sym, refl, ap, ◌∙◌, mul-le-mul_right, mul-le-mul, mul-one, mul-add, arith}
use native.Mathlib.Decide.{dec_lt}
use lib.Signed.{lt_z, pos-nat_abs, yes_non_neg}
use Rattle.large.specs.Value.{roomy}

-- ---------------- how large the high words are

-- a number below k·b has a high digit below k
high-below : (b k h l : ℕ) → h * b + l < k * b → h < k
high-below b k h l e =
    elim (dec_lt h k) [
      | yes p ↦ p
      | no p ↦ absurd (let m : k * b ≤ h * b = mul-le-mul_right b (omega arith) in omega arith)
    ]

-- of a product of two factors, and of a sum of two such products
abbrev pub most : ℕ
most = (roomy + 1) * (roomy + 1)

pub product_small : {x y : ℕ} → x ≤ roomy + 1 → y ≤ roomy + 1 → x * y ≤ most
product_small h k = mul-le-mul h k

pub high_small : (h l : ℕ) {p : ℕ} → h * 2 ^ 64 + l ≡ p → p ≤ most + most → h < 2 ^ 40
high_small h l e a = high-below (2 ^ 64) (2 ^ 40) h l (omega arith)

-- ---------------- what is compared

-- g·(g + 1) + h·(h + 1)
pub next-products : (g h : ℕ) → g * (g + 1) + h * (h + 1) ≡ g * g + h * h + (g + h)
next-products g h = let p = next g in let q = next h in omega arith
  where
    next : (a : ℕ) → a * (a + 1) ≡ a * a + a
    next a = mul-add a a 1 ∙ ap (λ (k : ℕ). a * a + k) (mul-one a)

-- a square is that of the magnitude
square-abs : (a : ℤ) → a *ℤ a ≡ pos (nat_abs a * nat_abs a)
square-abs (pos n) = refl
square-abs (negsuc n) = refl

-- so magnitudes are compared where squares of signed numbers are meant
pub of-magnitudes : (g h : ℤ) (reach : ℕ) {v : ℤ} → pos 0 ≤ℤ v
    → ltb (reach * nat_abs v) (nat_abs g * nat_abs g + nat_abs h * nat_abs h) ≡ lt_z (pos reach *ℤ v) (g *ℤ g +ℤ h *ℤ h)
of-magnitudes g h reach {v} k =
    λ i. lt_z (pos reach *ℤ pos-nat_abs v (yes_non_neg k) i) (sym (square-abs g) i +ℤ sym (square-abs h) i)
