-- The order of ℤ: its laws, the tests le_z, lt_z and eq_z read and made, the lesser and the greater of two numbers.
use Rattle.std.specs.Prelude.{◌≡◌, refl, Bool, true, false, not, cond, ◌&&◌, [], ◌∷◌, ◌⊎◌, T, ℤ, pos, ◌*ℤ◌, ◌≤ℤ◌, ◌<ℤ◌}
use Rattle.std.proofs.Common.{sym, ◌∙◌, ap, subst, subst₂, inl, inr, ⊎_elim, T_not}
use Rattle.std.specs.Int.Signed.{le_z, lt_z, le_z_yes, lt_z_yes, lt_z_no, clash_ℤ, ≤ℤ_refl}
use Rattle.std.proofs.Math.Facts.{and_yes, yes_and}
use Rattle.integers.specs.Laws.{cond_ind, test-ind, zarith}
use Rattle.integers.specs.Check.{con, ◌:*◌, ◌:≤◌, ◌:<◌, hyp, ◌⊞◌, scaled}
pub use Rattle.integers.specs.Laws.{nn-nat, nn-add, nn-mul, nn-sq}

-- ---------------- the laws

pub ≤ℤ-trans : {a b c : ℤ} → a ≤ℤ b → b ≤ℤ c → a ≤ℤ c
≤ℤ-trans h k = omega zarith

pub ≤-<ℤ-trans : {a b c : ℤ} → a ≤ℤ b → b <ℤ c → a <ℤ c
≤-<ℤ-trans h k = omega zarith

pub <ℤ-trans : {a b c : ℤ} → a <ℤ b → b <ℤ c → a <ℤ c
<ℤ-trans h k = omega zarith

pub ≤ℤ-antisym : {a b : ℤ} → a ≤ℤ b → b ≤ℤ a → a ≡ b
≤ℤ-antisym h k = omega zarith

pub <ℤ-weaken : {a b : ℤ} → a <ℤ b → a ≤ℤ b
<ℤ-weaken h = omega zarith

pub ≡→≤ℤ : {a b : ℤ} → a ≡ b → a ≤ℤ b
≡→≤ℤ e = omega zarith

-- ---------------- tests as equations of Bool

pub T_true : {b : Bool} → b ≡ true → T b
T_true e = subst T (sym e) tt

pub T_false : {b : Bool} → b ≡ false → T (not b)
T_false e = subst (λ (u : Bool). T (not u)) (sym e) tt

pub yes-T : (b : Bool) → T b → b ≡ true
yes-T true t = refl
yes-T false t = absurd t

pub no-T : (b : Bool) → (T b → ⊥) → b ≡ false
no-T true f = absurd (f tt)
no-T false f = refl

pub T-iff : (a b : Bool) → (T a → T b) → (T b → T a) → a ≡ b
T-iff true b f g = sym (yes-T b (f tt))
T-iff false b f g = sym (no-T b g)

-- ---------------- the tests of two numbers, read and made

pub ≤ℤ-or-<ℤ : (a b : ℤ) → (a ≤ℤ b) ⊎ (b <ℤ a)
≤ℤ-or-<ℤ a b =
    test-ind (λ _. (a ≤ℤ b) ⊎ (b <ℤ a)) (lt_z b a) (λ e. inr (lt_z_yes (T_true e))) (λ e. inl (lt_z_no (T_false e)))

-- beside le_z_yes, lt_z_yes and lt_z_no of the library
pub le_z-no : {a b : ℤ} → T (not (le_z a b)) → b <ℤ a
le_z-no {a} {b} t = ⊎_elim (λ h. absurd (T_not (le_z a b) t h.le)) (λ h. h) (≤ℤ-or-<ℤ a b)

pub lt-true : {a b : ℤ} → a <ℤ b → lt_z a b ≡ true
lt-true {a} {b} h = yes-T (lt_z a b) h.lt

pub lt-false : {a b : ℤ} → b ≤ℤ a → lt_z a b ≡ false
lt-false {a} {b} h = no-T (lt_z a b) (λ t. clash_ℤ (lt_z_yes t) h)

pub le-true : {a b : ℤ} → a ≤ℤ b → le_z a b ≡ true
le-true {a} {b} h = yes-T (le_z a b) h.le

pub le-false : {a b : ℤ} → b <ℤ a → le_z a b ≡ false
le-false {a} {b} h = no-T (le_z a b) (λ t. clash_ℤ h (le_z_yes t))

-- "at most" is "not above"
pub le_not : (a b : ℤ) → le_z a b ≡ not (lt_z b a)
le_not a b =
    ⊎_elim (λ h. le-true h ∙ ap not (sym (lt-false h))) (λ h. le-false h ∙ ap not (sym (lt-true h))) (≤ℤ-or-<ℤ a b)

-- a test of a and b, told of the numbers x and y that they are
pub lt_yes : {a b x y : ℤ} → a ≡ x → b ≡ y → lt_z a b ≡ true → x <ℤ y
lt_yes p q e = subst₂ ◌<ℤ◌ p q (lt_z_yes (T_true e))

pub lt_no : {a b x y : ℤ} → a ≡ x → b ≡ y → lt_z a b ≡ false → y ≤ℤ x
lt_no p q e = subst₂ ◌≤ℤ◌ q p (lt_z_no (T_false e))

pub le_yes : {a b x y : ℤ} → a ≡ x → b ≡ y → le_z a b ≡ true → x ≤ℤ y
le_yes p q e = subst₂ ◌≤ℤ◌ p q (le_z_yes (T_true e))

-- whether a = b
abbrev pub eq_z : ℤ → ℤ → Bool
eq_z a b = le_z a b && le_z b a

pub eq_z-yes : {a b : ℤ} → T (eq_z a b) → a ≡ b
eq_z-yes {a} {b} t = let s = and_yes (le_z a b) (le_z b a) t in ≤ℤ-antisym (le_z_yes s.0) (le_z_yes s.1)

pub yes-eq_z : {a b : ℤ} → a ≡ b → T (eq_z a b)
yes-eq_z {a} {b} e = yes_and (le_z a b) (le_z b a) (≡→≤ℤ e).le (≡→≤ℤ (sym e)).le

-- a positive factor is cancelled
pub cancel-≤ : (k a b : ℤ) → pos 0 <ℤ k → (k *ℤ a) ≤ℤ (k *ℤ b) → a ≤ℤ b
cancel-≤ = scaled 3 (λ k a b. ((con (pos 0) :< k) ∷ (k :* a :≤ k :* b) ∷ [], a :≤ b, hyp 0, hyp 1 ⊞ hyp 0)) tt

-- ---------------- the lesser and the greater

abbrev pub min_z : ℤ → ℤ → ℤ
min_z a b = cond (lt_z a b) a b

abbrev pub max_z : ℤ → ℤ → ℤ
max_z a b = cond (lt_z a b) b a

pub min-l : (a b : ℤ) → min_z a b ≤ℤ a
min-l a b = cond_ind (lt_z a b) a b (λ z. z ≤ℤ a) (λ _. ≤ℤ_refl a) lt_z_no

pub min-r : (a b : ℤ) → min_z a b ≤ℤ b
min-r a b = cond_ind (lt_z a b) a b (λ z. z ≤ℤ b) (λ t. <ℤ-weaken (lt_z_yes t)) (λ _. ≤ℤ_refl b)

pub min-greatest : {a b c : ℤ} → c ≤ℤ a → c ≤ℤ b → c ≤ℤ min_z a b
min-greatest {a} {b} {c} h k = cond_ind (lt_z a b) a b (λ z. c ≤ℤ z) (λ _. h) (λ _. k)

pub max-l : (a b : ℤ) → a ≤ℤ max_z a b
max-l a b = cond_ind (lt_z a b) b a (λ z. a ≤ℤ z) (λ t. <ℤ-weaken (lt_z_yes t)) (λ _. ≤ℤ_refl a)

pub max-r : (a b : ℤ) → b ≤ℤ max_z a b
max-r a b = cond_ind (lt_z a b) b a (λ z. b ≤ℤ z) (λ _. ≤ℤ_refl b) lt_z_no

pub max_least : {a b c : ℤ} → a ≤ℤ c → b ≤ℤ c → max_z a b ≤ℤ c
max_least {a} {b} {c} h k = cond_ind (lt_z a b) b a (λ z. z ≤ℤ c) (λ _. k) (λ _. h)
