-- Polynomials over ℤ as data: a term is brought to a normal form, and two terms of one normal form have one value.
-- `solve` is that theorem; the names that a proof writes are in `Check`.
use Rattle.std.specs.Prelude.{◌≡◌, refl, Bool, true, false, ◌&&◌, List, [], ◌∷◌, ℕ, zero, suc, ◌*◌, T, ℤ, pos, negsuc, neg_ℤ, ◌+ℤ◌, ◌-ℤ◌, ◌*ℤ◌}
use Rattle.std.proofs.Common.{sym, ◌∙◌, ap, arith}
use Rattle.std.proofs.Math.IntN.{+ℤ_assoc, +ℤ_comm, +ℤ_idl, +ℤ_idr, *ℤ_comm, zero-*ℤ, *ℤ-zero, neg_ℤ-+ℤ, -ℤ-+ℤ_cancel}
use Rattle.std.proofs.Math.Facts.{and_yes}
use Rattle.integers.specs.Laws.{P, N, P-neg, N-neg, PN-eq, PN-add, PN-mul, one-r, *ℤ-assoc, *ℤ-distr}

-- ---------------- the terms, and their values

infixl 6 ◌:+◌ ◌:-◌
infixl 7 ◌:*◌
pub data Expr : Type 0 where
  var : ℕ → Expr
  con : ℤ → Expr
  ◌:+◌ : Expr → Expr → Expr
  ◌:*◌ : Expr → Expr → Expr
  ◌:-◌ : Expr → Expr → Expr
  :neg : Expr → Expr

abbrev pub look : ℕ → List ℤ → ℤ
look n [] = pos 0
look zero (x ∷ ρ) = x
look (suc n) (x ∷ ρ) = look n ρ

abbrev pub ⟦◌⟧ : Expr → List ℤ → ℤ
⟦ var n ⟧ ρ = look n ρ
⟦ con c ⟧ ρ = c
⟦ a :+ b ⟧ ρ = ⟦ a ⟧ ρ +ℤ ⟦ b ⟧ ρ
⟦ a :* b ⟧ ρ = ⟦ a ⟧ ρ *ℤ ⟦ b ⟧ ρ
⟦ a :- b ⟧ ρ = ⟦ a ⟧ ρ -ℤ ⟦ b ⟧ ρ
⟦ :neg a ⟧ ρ = neg_ℤ (⟦ a ⟧ ρ)

-- ---------------- the normal forms

-- `ext a b` is a + x·b, where x is the first variable, and a has the others alone
pub data Poly : Type 0 where
  k : ℤ → Poly
  ext : Poly → Poly → Poly

abbrev pub hd : List ℤ → ℤ
hd [] = pos 0
hd (x ∷ ρ) = x

abbrev pub tl : List ℤ → List ℤ
tl [] = []
tl (x ∷ ρ) = ρ

abbrev pub val : Poly → List ℤ → ℤ
val (k c) ρ = c
val (ext a b) ρ = val a (tl ρ) +ℤ hd ρ *ℤ val b ρ

abbrev pub add_k : ℤ → Poly → Poly
add_k c (k d) = k (c +ℤ d)
add_k c (ext a b) = ext (add_k c a) b

abbrev pub add : Poly → Poly → Poly
add (k c) q = add_k c q
add (ext a b) (k d) = ext (add_k d a) b
add (ext a b) (ext c d) = ext (add a c) (add b d)

abbrev pub scale : ℤ → Poly → Poly
scale c (k d) = k (c *ℤ d)
scale c (ext a b) = ext (scale c a) (scale c b)

abbrev pub mul_k : ℤ → Poly → Poly
mul_k (pos zero) q = k (pos 0)
mul_k (pos (suc n)) q = scale (pos (suc n)) q
mul_k (negsuc n) q = scale (negsuc n) q

abbrev pub map_low : (Poly → Poly) → Poly → Poly
map_low f (k c) = ext (f (k c)) (k (pos 0))
map_low f (ext c d) = ext (f c) (map_low f d)

abbrev pub mul : Poly → Poly → Poly
mul (k c) q = mul_k c q
mul (ext a b) q = add (map_low (mul a) q) (ext (k (pos 0)) (mul b q))

abbrev pub neg : Poly → Poly
neg (k c) = k (neg_ℤ c)
neg (ext a b) = ext (neg a) (neg b)

abbrev pub var_p : ℕ → Poly
var_p zero = ext (k (pos 0)) (k (pos 1))
var_p (suc n) = ext (var_p n) (k (pos 0))

abbrev pub norm : Expr → Poly
norm (var n) = var_p n
norm (con c) = k c
norm (a :+ b) = add (norm a) (norm b)
norm (a :* b) = mul (norm a) (norm b)
norm (a :- b) = add (norm a) (neg (norm b))
norm (:neg a) = neg (norm a)

abbrev pub is_z : ℤ → Bool
is_z (pos zero) = true
is_z (pos (suc n)) = false
is_z (negsuc n) = false

abbrev pub is_zero : Poly → Bool
is_zero (k c) = is_z c
is_zero (ext a b) = is_zero a && is_zero b

-- ---------------- the laws that the soundness takes

add4 : (a b c d : ℤ) → (a +ℤ b) +ℤ (c +ℤ d) ≡ (a +ℤ c) +ℤ (b +ℤ d)
add4 a b c d =
    PN-eq _ _
    (omega (arith, PN-add (a +ℤ b) (c +ℤ d), PN-add a b, PN-add c d, PN-add (a +ℤ c) (b +ℤ d), PN-add a c, PN-add b d))

distr-r : (a b c : ℤ) → (a +ℤ b) *ℤ c ≡ a *ℤ c +ℤ b *ℤ c
distr-r a b c = *ℤ_comm (a +ℤ b) c ∙ *ℤ-distr c a b ∙ (λ i. *ℤ_comm c a i +ℤ *ℤ_comm c b i)

swap-l : (a x b : ℤ) → a *ℤ (x *ℤ b) ≡ x *ℤ (a *ℤ b)
swap-l a x b = sym (*ℤ-assoc a x b) ∙ ap (λ t. t *ℤ b) (*ℤ_comm a x) ∙ *ℤ-assoc x a b

neg-mul : (x b : ℤ) → neg_ℤ (x *ℤ b) ≡ x *ℤ neg_ℤ b
neg-mul x b =
    PN-eq _ _ (omega (arith, P-neg (x *ℤ b), N-neg (x *ℤ b), PN-mul x b, PN-mul x (neg_ℤ b), e₁, e₂, e₃, e₄))
  where
    e₁ : P x * P (neg_ℤ b) ≡ P x * N b
    e₁ = ap (λ (t : ℕ). P x * t) (P-neg b)

    e₂ : N x * P (neg_ℤ b) ≡ N x * N b
    e₂ = ap (λ (t : ℕ). N x * t) (P-neg b)

    e₃ : P x * N (neg_ℤ b) ≡ P x * P b
    e₃ = ap (λ (t : ℕ). P x * t) (N-neg b)

    e₄ : N x * N (neg_ℤ b) ≡ N x * P b
    e₄ = ap (λ (t : ℕ). N x * t) (N-neg b)

-- ---------------- a normal form has the value of its term

val-add_k : (c : ℤ) (q : Poly) (ρ : List ℤ) → val (add_k c q) ρ ≡ c +ℤ val q ρ
val-add_k c (k d) ρ = refl
val-add_k c (ext a b) ρ =
    ap (λ t. t +ℤ hd ρ *ℤ val b ρ) (val-add_k c a (tl ρ)) ∙ +ℤ_assoc c (val a (tl ρ)) (hd ρ *ℤ val b ρ)

val-add : (p q : Poly) (ρ : List ℤ) → val (add p q) ρ ≡ val p ρ +ℤ val q ρ
val-add (k c) q ρ = val-add_k c q ρ
val-add (ext a b) (k d) ρ = val-add_k d (ext a b) ρ ∙ +ℤ_comm d (val (ext a b) ρ)
val-add (ext a b) (ext c d) ρ =
    (λ i. val-add a c (tl ρ) i +ℤ hd ρ *ℤ val-add b d ρ i)
    ∙ ap (λ t. val a (tl ρ) +ℤ val c (tl ρ) +ℤ t) (*ℤ-distr (hd ρ) (val b ρ) (val d ρ))
    ∙ add4 (val a (tl ρ)) (val c (tl ρ)) (hd ρ *ℤ val b ρ) (hd ρ *ℤ val d ρ)

val-scale : (c : ℤ) (q : Poly) (ρ : List ℤ) → val (scale c q) ρ ≡ c *ℤ val q ρ
val-scale c (k d) ρ = refl
val-scale c (ext a b) ρ =
    (λ i. val-scale c a (tl ρ) i +ℤ hd ρ *ℤ val-scale c b ρ i)
    ∙ ap (λ t. c *ℤ val a (tl ρ) +ℤ t) (swap-l (hd ρ) c (val b ρ))
    ∙ sym (*ℤ-distr c (val a (tl ρ)) (hd ρ *ℤ val b ρ))

val-mul_k : (c : ℤ) (q : Poly) (ρ : List ℤ) → val (mul_k c q) ρ ≡ c *ℤ val q ρ
val-mul_k (pos zero) q ρ = sym (zero-*ℤ (val q ρ))
val-mul_k (pos (suc n)) q ρ = val-scale (pos (suc n)) q ρ
val-mul_k (negsuc n) q ρ = val-scale (negsuc n) q ρ

val-map_low : (f : Poly → Poly) (A : ℤ) (ρ : List ℤ) → ((q : Poly) → val (f q) (tl ρ) ≡ A *ℤ val q (tl ρ)) → (q : Poly)
    → val (map_low f q) ρ ≡ A *ℤ val q ρ
val-map_low f A ρ h (k c) =
    ap (λ t. val (f (k c)) (tl ρ) +ℤ t) (*ℤ-zero (hd ρ)) ∙ +ℤ_idr (val (f (k c)) (tl ρ)) ∙ h (k c)
val-map_low f A ρ h (ext c d) =
    (λ i. h c i +ℤ hd ρ *ℤ val-map_low f A ρ h d i)
    ∙ ap (λ t. A *ℤ val c (tl ρ) +ℤ t) (swap-l (hd ρ) A (val d ρ))
    ∙ sym (*ℤ-distr A (val c (tl ρ)) (hd ρ *ℤ val d ρ))

val-mul : (p q : Poly) (ρ : List ℤ) → val (mul p q) ρ ≡ val p ρ *ℤ val q ρ
val-mul (k c) q ρ = val-mul_k c q ρ
val-mul (ext a b) q ρ =
    val-add (map_low (mul a) q) (ext (k (pos 0)) (mul b q)) ρ
    ∙ (λ i. val-map_low (mul a) (val a (tl ρ)) ρ (λ r. val-mul a r (tl ρ)) q i +ℤ +ℤ_idl (hd ρ *ℤ val-mul b q ρ i) i)
    ∙ ap (λ t. val a (tl ρ) *ℤ val q ρ +ℤ t) (sym (*ℤ-assoc (hd ρ) (val b ρ) (val q ρ)))
    ∙ sym (distr-r (val a (tl ρ)) (hd ρ *ℤ val b ρ) (val q ρ))

val-neg : (p : Poly) (ρ : List ℤ) → val (neg p) ρ ≡ neg_ℤ (val p ρ)
val-neg (k c) ρ = refl
val-neg (ext a b) ρ =
    (λ i. val-neg a (tl ρ) i +ℤ hd ρ *ℤ val-neg b ρ i)
    ∙ ap (λ t. neg_ℤ (val a (tl ρ)) +ℤ t) (sym (neg-mul (hd ρ) (val b ρ)))
    ∙ sym (neg_ℤ-+ℤ (val a (tl ρ)) (hd ρ *ℤ val b ρ))

val-var : (n : ℕ) (ρ : List ℤ) → val (var_p n) ρ ≡ look n ρ
val-var zero [] = refl
val-var zero (x ∷ ρ) = +ℤ_idl (x *ℤ pos 1) ∙ one-r x
val-var (suc n) [] = ap (λ t. t +ℤ pos 0) (val-var n [])
val-var (suc n) (x ∷ ρ) = ap (λ t. val (var_p n) ρ +ℤ t) (*ℤ-zero x) ∙ +ℤ_idr (val (var_p n) ρ) ∙ val-var n ρ

pub norm-ok : (e : Expr) (ρ : List ℤ) → val (norm e) ρ ≡ ⟦ e ⟧ ρ
norm-ok (var n) ρ = val-var n ρ
norm-ok (con c) ρ = refl
norm-ok (a :+ b) ρ = val-add (norm a) (norm b) ρ ∙ (λ i. norm-ok a ρ i +ℤ norm-ok b ρ i)
norm-ok (a :* b) ρ = val-mul (norm a) (norm b) ρ ∙ (λ i. norm-ok a ρ i *ℤ norm-ok b ρ i)
norm-ok (a :- b) ρ =
    val-add (norm a) (neg (norm b)) ρ
    ∙ ap (λ t. val (norm a) ρ +ℤ t) (val-neg (norm b) ρ)
    ∙ (λ i. norm-ok a ρ i -ℤ norm-ok b ρ i)
norm-ok (:neg a) ρ = val-neg (norm a) ρ ∙ ap neg_ℤ (norm-ok a ρ)

is_z-ok : (c : ℤ) → T (is_z c) → c ≡ pos 0
is_z-ok (pos zero) t = refl
is_z-ok (pos (suc n)) t = absurd t
is_z-ok (negsuc n) t = absurd t

is_zero-ok : (p : Poly) (ρ : List ℤ) → T (is_zero p) → val p ρ ≡ pos 0
is_zero-ok (k c) ρ t = is_z-ok c t
is_zero-ok (ext a b) ρ t =
    (λ i.
    is_zero-ok a (tl ρ) (and_yes (is_zero a) (is_zero b) t).0 i
    +ℤ hd ρ *ℤ is_zero-ok b ρ (and_yes (is_zero a) (is_zero b) t).1 i)
    ∙ +ℤ_idl (hd ρ *ℤ pos 0)
    ∙ *ℤ-zero (hd ρ)

-- ---------------- the theorem

-- two terms whose difference has the normal form 0 are equal at all values
pub solve : (a b : Expr) (ρ : List ℤ) → T (is_zero (norm (a :- b))) → ⟦ a ⟧ ρ ≡ ⟦ b ⟧ ρ
solve a b ρ t = sub-zero (sym (norm-ok (a :- b) ρ) ∙ is_zero-ok (norm (a :- b)) ρ t)
  where
    sub-zero : ⟦ a ⟧ ρ -ℤ ⟦ b ⟧ ρ ≡ pos 0 → ⟦ a ⟧ ρ ≡ ⟦ b ⟧ ρ
    sub-zero h = sym (-ℤ-+ℤ_cancel (⟦ a ⟧ ρ) (⟦ b ⟧ ρ)) ∙ ap (λ t. t +ℤ ⟦ b ⟧ ρ) h ∙ +ℤ_idl (⟦ b ⟧ ρ)
