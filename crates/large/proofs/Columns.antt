-- The product of two words by the products of their halves, column by column; and what a sum and an order carry.
use Rattle.std.proofs.Common.{◌≡◌, ℕ, ◌+◌, ◌-◌, ◌*◌, ◌/◌, ◌%◌, ◌^◌, ◌<◌, ◌≤◌, Bool, true, false, ltb, refl, ◌∙◌, add_assoc, mul_assoc, mul_comm, add-mul, mul-le-mul, add_comm, mul-add, mul_left_comm, arith, ltb→lt, lt→ltb, ltb-false, ltb-true}
use native.Mathlib.Nat.{add_left_comm}
use mir.Val.{bool_byte}
use Rattle.integers.specs.Order.{T-iff}

-- ---------------- a product

abbrev pub half : ℕ
half = 2 ^ 32

-- the greatest product of two halves
abbrev pub largest : ℕ
largest = (half - 1) * (half - 1)

pub halves_small : {a b : ℕ} → a < half → b < half → a * b ≤ largest
halves_small {a} {b} h k = mul-le-mul {n₁ = a} {m₁ = b} {n₂ = half - 1} {m₂ = half - 1} (omega arith) (omega arith)

-- the four products, added with their carries
pub columns : (p q r s : ℕ) → let m = q + s / half + r % half in
    (p + m / half + r / half) * 2 ^ 64 + (m % half * half + s % half) ≡ p * 2 ^ 64 + q * half + r * half + s
columns p q r s = omega arith

-- two numbers of two digits
digits : (P a b c d : ℕ) → (a * P + b) * (c * P + d) ≡ a * c * (P * P) + a * d * P + b * c * P + b * d
digits P a b c d = simp (mul-add, add-mul, mul_assoc, mul_comm, mul_left_comm, add_assoc, add_comm, add_left_comm) refl

pub whole-product : (x y : ℕ) → let x1 = x / half in let x0 = x % half in let y1 = y / half in let y0 = y % half in
    x * y ≡ x1 * y1 * 2 ^ 64 + x1 * y0 * half + x0 * y1 * half + x0 * y0
whole-product x y = (λ i. cut x i * cut y i) ∙ digits half (x / half) (x % half) (y / half) (y % half)
  where
    cut : (n : ℕ) → n ≡ n / half * half + n % half
    cut n = omega arith

-- ---------------- what is carried

pub carried-small : (a b : ℕ) {k : ℕ} → k ≡ bool_byte (ltb a b) → k ≤ 1
carried-small a b e = go (ltb a b) e
  where
    go : (t : Bool) {k : ℕ} → k ≡ bool_byte t → k ≤ 1
    go true e = omega arith
    go false e = omega arith

-- a sum wraps exactly where its low word is below a low word of the two
pub sum-carried : (h l h' l' low k : ℕ) → l < 2 ^ 64 → l' < 2 ^ 64 → low ≡ (l + l') % 2 ^ 64 → k ≡ bool_byte (ltb low l)
    → (h + h' + k) * 2 ^ 64 + low ≡ h * 2 ^ 64 + l + (h' * 2 ^ 64 + l')
sum-carried h l h' l' low k a b e q = go (ltb low l) refl q
  where
    go : (t : Bool) → ltb low l ≡ t → k ≡ bool_byte t
        → (h + h' + k) * 2 ^ 64 + low ≡ h * 2 ^ 64 + l + (h' * 2 ^ 64 + l')
    go true f r = let m = ltb-true low l f in omega arith
    go false f r = let m = ltb-false low l f in omega arith

-- the order of two numbers, by that of others
ordered : (m n p q : ℕ) → (m < n → p < q) → (p < q → m < n) → ltb m n ≡ ltb p q
ordered m n p q f g =
    T-iff (ltb m n) (ltb p q) (λ t. lt→ltb p q (f (ltb→lt m n t))) (λ t. lt→ltb m n (g (ltb→lt p q t)))

-- where the low word is below, the high one may be the same
pub order-carried : (h l h' l' k : ℕ) → l < 2 ^ 64 → l' < 2 ^ 64 → k ≡ bool_byte (ltb l l')
    → ltb h (h' + k) ≡ ltb (h * 2 ^ 64 + l) (h' * 2 ^ 64 + l')
order-carried h l h' l' k a b q = go (ltb l l') refl q
  where
    go : (t : Bool) → ltb l l' ≡ t → k ≡ bool_byte t → ltb h (h' + k) ≡ ltb (h * 2 ^ 64 + l) (h' * 2 ^ 64 + l')
    go true f r =
        let m = ltb-true l l' f in
        ordered h (h' + k) (h * 2 ^ 64 + l) (h' * 2 ^ 64 + l') (λ n. omega arith) (λ n. omega arith)
    go false f r =
        let m = ltb-false l l' f in
        ordered h (h' + k) (h * 2 ^ 64 + l) (h' * 2 ^ 64 + l') (λ n. omega arith) (λ n. omega arith)

-- the same on both sides of an order
pub both-more : (m n k : ℕ) → ltb (m + k) (n + k) ≡ ltb m n
both-more m n k = ordered (m + k) (n + k) m n (λ h. omega arith) (λ h. omega arith)
