-- What proofs call, over any number n of variables, the parameters of a λ: `ring` shows an identity, `prove` an
-- inequality or
-- an equation from hypotheses, `scaled` the same up to a factor, `refute` a contradiction, `lin` what `omega` can show.
-- What comes out is a function of the n numbers and then of the hypotheses; proofs/Uses.antt has one use of each.
use Rattle.std.specs.Prelude.{◌≡◌, refl, Bool, true, false, ◌&&◌, ◌||◌, List, [], ◌∷◌, ℕ, zero, suc, ◌+◌, ◌*◌, ◌≤◌, ◌<◌, T, ℤ, pos, negsuc, neg_ℤ, ◌+ℤ◌, ◌-ℤ◌, ◌*ℤ◌, ◌≤ℤ◌, ◌<ℤ◌}
use Rattle.std.proofs.Common.{sym, ◌∙◌, ap, subst, ⊎_elim, le-mul_of_pos_right, zero-lt-suc, arith}
use Rattle.std.proofs.Math.IntN.{*ℤ-zero, zero-*ℤ}
use Rattle.std.proofs.Math.Facts.{and_yes, or_yes}
use Rattle.integers.specs.Laws.{P, N, PN-eq, PN-add, P-neg, N-neg, le_read, le-make, lt-read, lt-make, eq-read}
use Rattle.integers.specs.Laws.{zarith, Rep, rep, rep_neg, rep_add, rep_mul, nn-nat, nn-add, nn-mul, nn-sq}
use Rattle.integers.specs.Poly.{var, look, ⟦◌⟧, norm, is_zero, solve}
pub use Rattle.integers.specs.Poly.{Expr, con, ◌:+◌, ◌:*◌, ◌:-◌, :neg}

-- ---------------- functions of n arguments

abbrev pub Fun : ℕ → Type 0 → Type 0 → Type 0
Fun zero A B = B
Fun (suc n) A B = A → Fun n A B

-- f at v k, v (k + 1), ..
abbrev pub fill : {A B : Type 0} (v : ℕ → A) (n k : ℕ) → Fun n A B → B
fill v zero k f = f
fill v (suc n) k f = fill v n (suc k) (f (v k))

abbrev pub vars : {B : Type 0} (n : ℕ) → Fun n Expr B → B
vars n f = fill var n 0 f

-- Q of every n numbers
abbrev pub Every : (n : ℕ) → (List ℤ → Type 0) → Type 0
Every zero Q = Q []
Every (suc n) Q = (x : ℤ) → Every n (λ ρ. Q (x ∷ ρ))

pub every : (n : ℕ) (Q : List ℤ → Type 0) → ((ρ : List ℤ) → Q ρ) → Every n Q
every zero Q f = f []
every (suc n) Q f = λ x. every n (λ ρ. Q (x ∷ ρ)) (λ ρ. f (x ∷ ρ))

pub at_every : (n : ℕ) {Q R : List ℤ → Type 0} → ((ρ : List ℤ) → Q ρ → R ρ) → Every n Q → Every n R
at_every zero f h = f [] h
at_every (suc n) f h = λ x. at_every n (λ ρ. f (x ∷ ρ)) (h x)

-- ---------------- statements

infix 4 ◌:≤◌ ◌:<◌ ◌:=◌
pub data Stmt : Type 0 where
  ◌:≤◌ ◌:<◌ ◌:=◌ : Expr → Expr → Stmt

abbrev pub Holds : Stmt → List ℤ → Type 0
Holds (a :≤ b) ρ = ⟦ a ⟧ ρ ≤ℤ ⟦ b ⟧ ρ
Holds (a :< b) ρ = ⟦ a ⟧ ρ <ℤ ⟦ b ⟧ ρ
Holds (a := b) ρ = ⟦ a ⟧ ρ ≡ ⟦ b ⟧ ρ

-- G, from each of the statements
abbrev pub Given : List Stmt → List ℤ → Type 0 → Type 0
Given [] ρ G = G
Given (g ∷ gs) ρ G = Holds g ρ → Given gs ρ G

abbrev All : List Stmt → List ℤ → Type 0
All [] ρ = Unit {0}
All (g ∷ gs) ρ = Holds g ρ × All gs ρ

given : {G : Type 0} (gs : List Stmt) (ρ : List ℤ) → (All gs ρ → G) → Given gs ρ G
given [] ρ f = f tt
given (g ∷ gs) ρ f = λ h. given gs ρ (λ hs. f (h, hs))

-- ---------------- certificates

-- what is not negative where a statement holds
abbrev pub slack : Stmt → Expr
slack (a :≤ b) = b :- a
slack (a :< b) = b :- a :- con (pos 1)
slack (a := b) = b :- a

abbrev pub is_eq : Stmt → Bool
is_eq (a :≤ b) = false
is_eq (a :< b) = false
is_eq (a := b) = true

-- what is 0 where a statement holds
abbrev pub gap : Stmt → Expr
gap (a :≤ b) = con (pos 0)
gap (a :< b) = con (pos 0)
gap (a := b) = b :- a

abbrev pub nth : ℕ → List Stmt → Stmt
nth n [] = con (pos 0) := con (pos 0)
nth zero (g ∷ gs) = g
nth (suc n) (g ∷ gs) = nth n gs

infixl 6 ◌⊞◌
infixl 7 ◌⊠◌
-- an expression that is not negative, by its form
pub data Cert : Type 0 where
  hyp : ℕ → Cert  -- the slack of a hypothesis
  num : ℕ → Cert
  sqr : Expr → Cert
  mul : Expr → ℕ → Cert  -- any multiple of a hypothesis that is an equation
  ◌⊞◌ ◌⊠◌ : Cert → Cert → Cert

abbrev pub body : List Stmt → Cert → Expr
body gs (hyp n) = slack (nth n gs)
body gs (num n) = con (pos n)
body gs (sqr e) = e :* e
body gs (mul e n) = e :* gap (nth n gs)
body gs (a ⊞ b) = body gs a :+ body gs b
body gs (a ⊠ b) = body gs a :* body gs b

-- whether that expression is 0, by its form
abbrev pub null : List Stmt → Cert → Bool
null gs (hyp n) = is_eq (nth n gs)
null gs (num zero) = true
null gs (num (suc n)) = false
null gs (sqr e) = false
null gs (mul e n) = true
null gs (a ⊞ b) = null gs a && null gs b
null gs (a ⊠ b) = null gs a || null gs b

-- The test. Of a goal with slack s, a certificate K of a factor and a certificate C: (K + 1)·s + K = C, and for an
-- equation
-- (K + 1)·s = C = 0. So s > −1, and s is whole.
abbrev pub checks : List Stmt → Stmt → Cert → Cert → Bool
checks gs (a :≤ b) k c = is_zero (norm ((body gs k :+ con (pos 1)) :* (b :- a) :+ body gs k :- body gs c))
checks gs (a :< b) k c = is_zero (norm ((body gs k :+ con (pos 1)) :* (b :- a :- con (pos 1)) :+ body gs k :- body gs c))
checks gs (a := b) k c = null gs c && is_zero (norm ((body gs k :+ con (pos 1)) :* (b :- a) :- body gs c))

-- ---------------- a certificate is right

le-slack : (x y : ℤ) → x ≤ℤ y → pos 0 ≤ℤ (y -ℤ x)
le-slack x y h = omega (zarith, PN-add y (neg_ℤ x), P-neg x, N-neg x)

slack-le : (x y : ℤ) → pos 0 ≤ℤ (y -ℤ x) → x ≤ℤ y
slack-le x y h = omega (zarith, PN-add y (neg_ℤ x), P-neg x, N-neg x)

lt-slack : (x y : ℤ) → x <ℤ y → pos 0 ≤ℤ (y -ℤ x -ℤ pos 1)
lt-slack x y h = omega (zarith, PN-add (y -ℤ x) (negsuc 0), PN-add y (neg_ℤ x), P-neg x, N-neg x)

slack-lt : (x y : ℤ) → pos 0 ≤ℤ (y -ℤ x -ℤ pos 1) → x <ℤ y
slack-lt x y h = omega (zarith, PN-add (y -ℤ x) (negsuc 0), PN-add y (neg_ℤ x), P-neg x, N-neg x)

eq-slack : (x y : ℤ) → x ≡ y → y -ℤ x ≡ pos 0
eq-slack x y h = omega (zarith, PN-add y (neg_ℤ x), P-neg x, N-neg x)

slack-eq : (x y : ℤ) → y -ℤ x ≡ pos 0 → x ≡ y
slack-eq x y h = omega (zarith, PN-add y (neg_ℤ x), P-neg x, N-neg x)

nn-zero : {x : ℤ} → x ≡ pos 0 → pos 0 ≤ℤ x
nn-zero e = omega zarith

-- (k + 1)·s + k is not negative, so s is not, being whole
unscale : (k s : ℤ) → pos 0 ≤ℤ k → pos 0 ≤ℤ ((k +ℤ pos 1) *ℤ s +ℤ k) → pos 0 ≤ℤ s
unscale k (pos n) h l = nn-nat n
unscale (pos k) (negsuc n) h l =
    let m = pos ((k + 1) * suc n) in
    let up = le-mul_of_pos_right {m = suc n} (k + 1) (zero-lt-suc n) in
    absurd (omega (arith, le_read l, PN-add (neg_ℤ m) (pos k), P-neg m, N-neg m))
unscale (negsuc k) (negsuc n) h l = absurd h.le

unscale-eq : (k s : ℤ) → pos 0 ≤ℤ k → (k +ℤ pos 1) *ℤ s ≡ pos 0 → s ≡ pos 0
unscale-eq k (pos zero) h e = refl
unscale-eq (pos k) (pos (suc n)) h e =
    absurd (omega (arith, eq-read e, le-mul_of_pos_right {m = suc n} (k + 1) (zero-lt-suc n)))
unscale-eq (pos k) (negsuc n) h e =
    let m = pos ((k + 1) * suc n) in
    let up = le-mul_of_pos_right {m = suc n} (k + 1) (zero-lt-suc n) in
    absurd (omega (arith, eq-read e, P-neg m, N-neg m))
unscale-eq (negsuc k) (pos (suc n)) h e = absurd h.le
unscale-eq (negsuc k) (negsuc n) h e = absurd h.le

slack-ok : (g : Stmt) (ρ : List ℤ) → Holds g ρ → pos 0 ≤ℤ ⟦ slack g ⟧ ρ
slack-ok (a :≤ b) ρ h = le-slack (⟦ a ⟧ ρ) (⟦ b ⟧ ρ) h
slack-ok (a :< b) ρ h = lt-slack (⟦ a ⟧ ρ) (⟦ b ⟧ ρ) h
slack-ok (a := b) ρ h = nn-zero (eq-slack (⟦ a ⟧ ρ) (⟦ b ⟧ ρ) h)

gap-ok : (g : Stmt) (ρ : List ℤ) → Holds g ρ → ⟦ gap g ⟧ ρ ≡ pos 0
gap-ok (a :≤ b) ρ h = refl
gap-ok (a :< b) ρ h = refl
gap-ok (a := b) ρ h = eq-slack (⟦ a ⟧ ρ) (⟦ b ⟧ ρ) h

is_eq-ok : (g : Stmt) (ρ : List ℤ) → T (is_eq g) → Holds g ρ → ⟦ slack g ⟧ ρ ≡ pos 0
is_eq-ok (a :≤ b) ρ t h = absurd t
is_eq-ok (a :< b) ρ t h = absurd t
is_eq-ok (a := b) ρ t h = eq-slack (⟦ a ⟧ ρ) (⟦ b ⟧ ρ) h

nth_ok : (n : ℕ) (gs : List Stmt) (ρ : List ℤ) → All gs ρ → Holds (nth n gs) ρ
nth_ok zero [] ρ h = refl
nth_ok (suc n) [] ρ h = refl
nth_ok zero (g ∷ gs) ρ h = h.0
nth_ok (suc n) (g ∷ gs) ρ h = nth_ok n gs ρ h.1

mul-zero : (x : ℤ) {y : ℤ} → y ≡ pos 0 → x *ℤ y ≡ pos 0
mul-zero x e = ap (λ (t : ℤ). x *ℤ t) e ∙ *ℤ-zero x

zero-mul : {x : ℤ} (y : ℤ) → x ≡ pos 0 → x *ℤ y ≡ pos 0
zero-mul y e = ap (λ (t : ℤ). t *ℤ y) e ∙ zero-*ℤ y

module _ (gs : List Stmt) (ρ : List ℤ) (h : All gs ρ) where
  body_ok : (c : Cert) → pos 0 ≤ℤ ⟦ body gs c ⟧ ρ
  body_ok (hyp n) = slack-ok (nth n gs) ρ (nth_ok n gs ρ h)
  body_ok (num n) = nn-nat n
  body_ok (sqr e) = nn-sq (⟦ e ⟧ ρ)
  body_ok (mul e n) = nn-zero (mul-zero (⟦ e ⟧ ρ) (gap-ok (nth n gs) ρ (nth_ok n gs ρ h)))
  body_ok (a ⊞ b) = nn-add (body_ok a) (body_ok b)
  body_ok (a ⊠ b) = nn-mul (body_ok a) (body_ok b)

  null_ok : (c : Cert) → T (null gs c) → ⟦ body gs c ⟧ ρ ≡ pos 0
  null_ok (hyp n) t = is_eq-ok (nth n gs) ρ t (nth_ok n gs ρ h)
  null_ok (num zero) t = refl
  null_ok (num (suc n)) t = absurd t
  null_ok (sqr e) t = absurd t
  null_ok (mul e n) t = mul-zero (⟦ e ⟧ ρ) (gap-ok (nth n gs) ρ (nth_ok n gs ρ h))
  null_ok (a ⊞ b) t = let s = and_yes (null gs a) (null gs b) t in λ i. null_ok a s.0 i +ℤ null_ok b s.1 i
  null_ok (a ⊠ b) t =
      ⊎_elim (λ s. zero-mul (⟦ body gs b ⟧ ρ) (null_ok a s)) (λ s. mul-zero (⟦ body gs a ⟧ ρ) (null_ok b s))
      (or_yes (null gs a) (null gs b) t)

  above : (s : Expr) (k c : Cert) → T (is_zero (norm ((body gs k :+ con (pos 1)) :* s :+ body gs k :- body gs c)))
      → pos 0 ≤ℤ ⟦ s ⟧ ρ
  above s k c t =
      unscale (⟦ body gs k ⟧ ρ) (⟦ s ⟧ ρ) (body_ok k)
      (subst (λ (z : ℤ). pos 0 ≤ℤ z)
      (sym (solve ((body gs k :+ con (pos 1)) :* s :+ body gs k) (body gs c) ρ t)) (body_ok c))

  checks-ok : (g : Stmt) (k c : Cert) → T (checks gs g k c) → Holds g ρ
  checks-ok (a :≤ b) k c t = slack-le (⟦ a ⟧ ρ) (⟦ b ⟧ ρ) (above (b :- a) k c t)
  checks-ok (a :< b) k c t = slack-lt (⟦ a ⟧ ρ) (⟦ b ⟧ ρ) (above (b :- a :- con (pos 1)) k c t)
  checks-ok (a := b) k c t =
      let s = and_yes (null gs c) _ t in
      slack-eq (⟦ a ⟧ ρ) (⟦ b ⟧ ρ) (unscale-eq (⟦ body gs k ⟧ ρ) (⟦ b :- a ⟧ ρ) (body_ok k)
      (solve ((body gs k :+ con (pos 1)) :* (b :- a)) (body gs c) ρ s.1 ∙ null_ok c s.0))

-- ---------------- identities, and statements from statements

-- the goal g, from the hypotheses gs
abbrev pub Says : List Stmt → Stmt → List ℤ → Type 0
Says gs g ρ = Given gs ρ (Holds g ρ)

says : (gs : List Stmt) (g : Stmt) (k c : Cert) → T (checks gs g k c) → (ρ : List ℤ) → Says gs g ρ
says gs g k c t ρ = given gs ρ (λ h. checks-ok gs ρ h g k c t)

-- a polynomial identity holds of all numbers
pub ring : (n : ℕ) (f : Fun n Expr Stmt) → T (checks [] (vars n f) (num 0) (num 0)) → Every n (Holds (vars n f))
ring n f t = every n (Holds (vars n f)) (says [] (vars n f) (num 0) (num 0) t)

-- hypotheses, a goal, and the certificate of its slack (of an equation: a sum of multiples of equations)
abbrev pub Claim : Type 0
Claim = List Stmt × Stmt × Cert

abbrev pub valid : Claim → Bool
valid q = checks q.0 q.1 (num 0) q.2

-- a goal whose slack is its certificate's expression follows from the hypotheses
pub prove : (n : ℕ) (f : Fun n Expr Claim) → T (valid (vars n f)) → Every n (Says (vars n f).0 (vars n f).1)
prove n f t = every n (Says (vars n f).0 (vars n f).1) (says (vars n f).0 (vars n f).1 (num 0) (vars n f).2 t)

-- hypotheses, a goal of slack s, a certificate K, and the certificate of (K + 1)·s + K (of an equation: of (K + 1)·s)
abbrev pub Scaled : Type 0
Scaled = List Stmt × Stmt × Cert × Cert

abbrev pub valid-scaled : Scaled → Bool
valid-scaled q = checks q.0 q.1 q.2 q.3

-- the same where a goal is had only up to a positive factor K + 1
pub scaled : (n : ℕ) (f : Fun n Expr Scaled) → T (valid-scaled (vars n f)) → Every n (Says (vars n f).0 (vars n f).1)
scaled n f t =
    every n (Says (vars n f).0 (vars n f).1) (says (vars n f).0 (vars n f).1 (vars n f).2 (vars n f).3 t)

-- hypotheses, and a certificate whose expression is −1
abbrev pub Clash : Type 0
Clash = List Stmt × Cert

abbrev pub clashes : Clash → Bool
clashes q = checks q.0 (con (pos 1) :≤ con (pos 0)) (num 0) q.1

-- hypotheses that make −1 not negative do not hold together
pub refute : (n : ℕ) (f : Fun n Expr Clash) → T (clashes (vars n f)) → Every n (λ ρ. Given (vars n f).0 ρ ⊥)
refute n f t =
    every n (λ ρ. Given (vars n f).0 ρ ⊥)
    (λ ρ.
    given (vars n f).0 ρ
    (λ h. (checks-ok (vars n f).0 ρ h (con (pos 1) :≤ con (pos 0)) (num 0) (vars n f).1 t).le))

-- ---------------- statements of ℤ as statements of ℕ, for `omega`

-- e is p_e e − n_e e
abbrev mutual
  pub p_e : Expr → List ℤ → ℕ
  p_e (var n) ρ = P (look n ρ)
  p_e (con c) ρ = P c
  p_e (a :+ b) ρ = p_e a ρ + p_e b ρ
  p_e (a :* b) ρ = p_e a ρ * p_e b ρ + n_e a ρ * n_e b ρ
  p_e (a :- b) ρ = p_e a ρ + n_e b ρ
  p_e (:neg a) ρ = n_e a ρ

  pub n_e : Expr → List ℤ → ℕ
  n_e (var n) ρ = N (look n ρ)
  n_e (con c) ρ = N c
  n_e (a :+ b) ρ = n_e a ρ + n_e b ρ
  n_e (a :* b) ρ = p_e a ρ * n_e b ρ + n_e a ρ * p_e b ρ
  n_e (a :- b) ρ = n_e a ρ + p_e b ρ
  n_e (:neg a) ρ = p_e a ρ

rep-E : (e : Expr) (ρ : List ℤ) → Rep (⟦ e ⟧ ρ) (p_e e ρ) (n_e e ρ)
rep-E (var n) ρ = rep (look n ρ)
rep-E (con c) ρ = rep c
rep-E (a :+ b) ρ = rep_add (⟦ a ⟧ ρ) (⟦ b ⟧ ρ) _ _ _ _ (rep-E a ρ) (rep-E b ρ)
rep-E (a :* b) ρ = rep_mul (⟦ a ⟧ ρ) (⟦ b ⟧ ρ) _ _ _ _ (rep-E a ρ) (rep-E b ρ)
rep-E (a :- b) ρ = rep_add (⟦ a ⟧ ρ) (neg_ℤ (⟦ b ⟧ ρ)) _ _ _ _ (rep-E a ρ) (rep_neg (⟦ b ⟧ ρ) _ _ (rep-E b ρ))
rep-E (:neg a) ρ = rep_neg (⟦ a ⟧ ρ) _ _ (rep-E a ρ)

abbrev pub Holdsℕ : Stmt → List ℤ → Type 0
Holdsℕ (a :≤ b) ρ = p_e a ρ + n_e b ρ ≤ p_e b ρ + n_e a ρ
Holdsℕ (a :< b) ρ = p_e a ρ + n_e b ρ < p_e b ρ + n_e a ρ
Holdsℕ (a := b) ρ = p_e a ρ + n_e b ρ ≡ p_e b ρ + n_e a ρ

abbrev pub Saysℕ : List Stmt → Stmt → List ℤ → Type 0
Saysℕ [] g ρ = Holdsℕ g ρ
Saysℕ (h ∷ gs) g ρ = Holdsℕ h ρ → Saysℕ gs g ρ

to-ℕ : (g : Stmt) (ρ : List ℤ) → Holds g ρ → Holdsℕ g ρ
to-ℕ (a :≤ b) ρ h = omega (arith, le_read h, rep-E a ρ, rep-E b ρ)
to-ℕ (a :< b) ρ h = omega (arith, lt-read h, rep-E a ρ, rep-E b ρ)
to-ℕ (a := b) ρ h = omega (arith, eq-read h, rep-E a ρ, rep-E b ρ)

of-ℕ : (g : Stmt) (ρ : List ℤ) → Holdsℕ g ρ → Holds g ρ
of-ℕ (a :≤ b) ρ h = le-make (⟦ a ⟧ ρ) (⟦ b ⟧ ρ) (omega (arith, rep-E a ρ, rep-E b ρ))
of-ℕ (a :< b) ρ h = lt-make (⟦ a ⟧ ρ) (⟦ b ⟧ ρ) (omega (arith, rep-E a ρ, rep-E b ρ))
of-ℕ (a := b) ρ h = PN-eq (⟦ a ⟧ ρ) (⟦ b ⟧ ρ) (omega (arith, rep-E a ρ, rep-E b ρ))

says-ℕ : (gs : List Stmt) (g : Stmt) (ρ : List ℤ) → Saysℕ gs g ρ → Says gs g ρ
says-ℕ [] g ρ f = of-ℕ g ρ f
says-ℕ (h ∷ gs) g ρ f = λ x. says-ℕ gs g ρ (f (to-ℕ h ρ x))

-- hypotheses and a goal
abbrev pub Linear : Type 0
Linear = List Stmt × Stmt

-- what follows linearly, by `omega arith` as the last argument, in which a number is two naturals
pub lin : (n : ℕ) (f : Fun n Expr Linear) → Every n (Saysℕ (vars n f).0 (vars n f).1)
    → Every n (Says (vars n f).0 (vars n f).1)
lin n f h = at_every n (says-ℕ (vars n f).0 (vars n f).1) h
