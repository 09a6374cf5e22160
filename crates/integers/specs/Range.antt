-- Bounds on magnitudes: what |x| ≤ B says, and the bound of a polynomial of bounded numbers, which is computed.
use Rattle.std.specs.Prelude.{◌≡◌, refl, List, [], ◌∷◌, ℕ, zero, suc, ◌+◌, ◌*◌, ◌-◌, ◌^◌, ◌≤◌, ◌<◌, T, ltb, leb, ℤ, pos, negsuc, neg_ℤ, nat_abs, ◌+ℤ◌, ◌-ℤ◌, ◌*ℤ◌, ◌≤ℤ◌}
use Rattle.std.proofs.Common.{subst, mul-le-mul, le_trans, le_of_eq, add-le-add, lt_of_le_of_lt, le_refl, arith, ltb→lt, nltb→le, leb→le}
use Rattle.std.proofs.Math.IntN.{sub_ℕ}
use Rattle.std.specs.Int.Signed.{mag}
use Rattle.std.specs.Int.{Width}
use mir.Val.{SFits, hbits}
use Rattle.integers.specs.Laws.{P, N, P-neg, N-neg, le_read, cond_ind, zarith}
use Rattle.integers.specs.Poly.{Expr, var, con, ◌:+◌, ◌:*◌, ◌:-◌, :neg}

-- ---------------- magnitudes

-- |x| ≤ B; a record, so that both numbers can be inferred from it
pub record Abs≤ (B : ℕ) (x : ℤ) : Type 0 where
  pub abs : nat_abs x ≤ B

-- the magnitude, for `omega` beside the order's facts
pub abs-PN : (x : ℤ) → nat_abs x ≡ P x + N x
abs-PN (pos n) = omega arith
abs-PN (negsuc n) = omega arith

pub abs-sub : (a b : ℕ) → nat_abs (sub_ℕ a b) ≤ a + b
abs-sub a b =
    cond_ind (ltb a b) (negsuc (b - suc a)) (pos (a - b)) (λ z. nat_abs z ≤ a + b)
    (λ t. let h : a < b = ltb→lt a b t in omega arith) (λ t. let h : b ≤ a = nltb→le a b t in omega arith)

pub abs-add : (a b : ℤ) → nat_abs (a +ℤ b) ≤ nat_abs a + nat_abs b
abs-add (pos a) (pos b) = le_refl (a + b)
abs-add (pos a) (negsuc b) = abs-sub a (suc b)
abs-add (negsuc a) (pos b) = omega (arith, abs-sub b (suc a))
abs-add (negsuc a) (negsuc b) = omega arith

pub abs_neg : (a : ℤ) → nat_abs (neg_ℤ a) ≡ nat_abs a
abs_neg (pos zero) = refl
abs_neg (pos (suc n)) = refl
abs_neg (negsuc n) = refl

pub abs-mul : (a b : ℤ) → nat_abs (a *ℤ b) ≡ nat_abs a * nat_abs b
abs-mul (pos a) (pos b) = refl
abs-mul (pos a) (negsuc b) = abs_neg (pos (a * suc b))
abs-mul (negsuc a) (pos b) = abs_neg (pos (suc a * b))
abs-mul (negsuc a) (negsuc b) = refl

-- ---------------- a bound, made and used

pub abs-of : {B : ℕ} {x : ℤ} → neg_ℤ (pos B) ≤ℤ x → x ≤ℤ pos B → Abs≤ B x
abs-of {B} {x} h l = record { abs = go x h l }
  where
    go : (x : ℤ) → neg_ℤ (pos B) ≤ℤ x → x ≤ℤ pos B → nat_abs x ≤ B
    go (pos n) h l = omega (arith, le_read l)
    go (negsuc n) h l = omega (arith, le_read h, P-neg (pos B), N-neg (pos B))

pub abs-hi : {B : ℕ} {x : ℤ} → Abs≤ B x → x ≤ℤ pos B
abs-hi {B} {x} h = omega (zarith, h.abs, abs-PN x)

pub abs-lo : {B : ℕ} {x : ℤ} → Abs≤ B x → neg_ℤ (pos B) ≤ℤ x
abs-lo {B} {x} h = omega (zarith, h.abs, abs-PN x, P-neg (pos B), N-neg (pos B))

pub abs-weaken : {B C : ℕ} {z : ℤ} → Abs≤ B z → T (leb B C) → Abs≤ C z
abs-weaken {B} {C} h t = record { abs = le_trans h.abs (leb→le B C t) }

-- a bound of one number, at an equal one
pub abs-at : {B : ℕ} {y z : ℤ} → y ≡ z → Abs≤ B y → Abs≤ B z
abs-at {B} e h = subst (Abs≤ B) e h

pub fits-of : (w : Width) {B : ℕ} {z : ℤ} → Abs≤ B z → T (ltb B (2 ^ hbits w)) → SFits w z
fits-of w {B} {z} h t = record { sfits = lt_of_le_of_lt (le_trans (mag-abs z) h.abs) (ltb→lt B (2 ^ hbits w) t) }
  where
    mag-abs : (z : ℤ) → mag z ≤ nat_abs z
    mag-abs (pos n) = le_refl n
    mag-abs (negsuc n) = omega arith

-- ---------------- several at once

infixr 5 ◌&◌
-- R of each pair of two lists: `h & k & nil`
pub data Each {A B : Type 0} (R : A → B → Type 0) : List A → List B → Type 0 where
  nil : Each R [] []
  ◌&◌ : {a : A} {b : B} {l : List A} {m : List B} → R a b → Each R l m → Each R (a ∷ l) (b ∷ m)

-- ---------------- the bound of an expression

abbrev pub lookℕ : ℕ → List ℕ → ℕ
lookℕ n [] = 0
lookℕ zero (b ∷ bs) = b
lookℕ (suc n) (b ∷ bs) = lookℕ n bs

abbrev pub bnd : Expr → List ℕ → ℕ
bnd (var n) bs = lookℕ n bs
bnd (con c) bs = nat_abs c
bnd (a :+ b) bs = bnd a bs + bnd b bs
bnd (a :* b) bs = bnd a bs * bnd b bs
bnd (a :- b) bs = bnd a bs + bnd b bs
bnd (:neg a) bs = bnd a bs

-- the magnitude of a sum, a product and a difference, each below the sum or the product of two bounds
pub add-bound : (a b : ℤ) {m n : ℕ} → nat_abs a ≤ m → nat_abs b ≤ n → nat_abs (a +ℤ b) ≤ m + n
add-bound a b h k = le_trans (abs-add a b) (add-le-add h k)

pub mul-bound : (a b : ℤ) {m n : ℕ} → nat_abs a ≤ m → nat_abs b ≤ n → nat_abs (a *ℤ b) ≤ m * n
mul-bound a b h k = le_trans (le_of_eq (abs-mul a b)) (mul-le-mul h k)

pub neg-bound : (a : ℤ) {m : ℕ} → nat_abs a ≤ m → nat_abs (neg_ℤ a) ≤ m
neg-bound a h = le_trans (le_of_eq (abs_neg a)) h

pub sub-bound : (a b : ℤ) {m n : ℕ} → nat_abs a ≤ m → nat_abs b ≤ n → nat_abs (a -ℤ b) ≤ m + n
sub-bound a b h k = add-bound a (neg_ℤ b) h (neg-bound b k)
