-- ℤ as an ordered commutative ring, read through two naturals: z = P z − N z.
-- From that reading come the ring laws that the library lacks, and `omega zarith`, which proves linear facts of ≤ℤ, <ℤ
-- and ≡.
use Rattle.std.specs.Prelude.{◌≡◌, refl, Bool, true, false, not, cond, ℕ, zero, suc, ◌+◌, ◌*◌, ◌-◌, ◌≤◌, ◌<◌, T, ltb, ℤ, pos, negsuc, neg_ℤ, ◌+ℤ◌, ◌*ℤ◌, ◌≤ℤ◌, ◌<ℤ◌}
use Rattle.std.proofs.Common.{sym, ◌∙◌, ap, subst, add-mul, mul-add, mul_assoc, arith, ltb→lt, nltb→le, leb→le, le→leb}
use Rattle.std.proofs.Math.Option.{Option, none, some}
use Rattle.std.proofs.Math.IntN.{sub_ℕ, one, *ℤ-one}
use Rattle.std.specs.Int.Signed.{le_z_yes, lt_z_yes}

-- ---------------- a branch

-- what holds of both branches, each under its condition, holds of the choice
pub cond_ind : {A : Type 0} (c : Bool) (x y : A) (Q : A → Type 0) → (T c → Q x) → (T (not c) → Q y) → Q (cond c x y)
cond_ind true x y Q f g = f tt
cond_ind false x y Q f g = g tt

-- what holds of a test's yes and of its no, each where it is the test's answer, holds of the test
pub test-ind : (Q : Bool → Type 0) (b : Bool) → (b ≡ true → Q true) → (b ≡ false → Q false) → Q b
test-ind Q true f g = f refl
test-ind Q false f g = g refl

-- and of an option, by whether it holds something
pub option-ind : {A : Type 0} (Q : Option A → Type 0) (o : Option A) → (o ≡ none → Q none)
    → ((a : A) → o ≡ some a → Q (some a)) → Q o
option-ind Q none f g = f refl
option-ind Q (some a) f g = g a refl

-- ---------------- the two parts of a number

abbrev pub P : ℤ → ℕ
P (pos n) = n
P (negsuc n) = 0

abbrev pub N : ℤ → ℕ
N (pos n) = 0
N (negsuc n) = suc n

-- a number is its parts' difference
pub PN-eq : (a b : ℤ) → P a + N b ≡ P b + N a → a ≡ b
PN-eq (pos a) (pos b) h = ap pos (omega arith)
PN-eq (pos a) (negsuc b) h = absurd (omega arith)
PN-eq (negsuc a) (pos b) h = absurd (omega arith)
PN-eq (negsuc a) (negsuc b) h = ap negsuc (omega arith)

pub P-neg : (a : ℤ) → P (neg_ℤ a) ≡ N a
P-neg (pos zero) = refl
P-neg (pos (suc n)) = refl
P-neg (negsuc n) = refl

pub N-neg : (a : ℤ) → N (neg_ℤ a) ≡ P a
N-neg (pos zero) = refl
N-neg (pos (suc n)) = refl
N-neg (negsuc n) = refl

PN-sub : (a b : ℕ) → P (sub_ℕ a b) + b ≡ N (sub_ℕ a b) + a
PN-sub a b =
    cond_ind (ltb a b) (negsuc (b - suc a)) (pos (a - b)) (λ z. P z + b ≡ N z + a)
    (λ t. let h : a < b = ltb→lt a b t in omega arith) (λ t. let h : b ≤ a = nltb→le a b t in omega arith)

pub PN-add : (a b : ℤ) → P (a +ℤ b) + (N a + N b) ≡ N (a +ℤ b) + (P a + P b)
PN-add (pos a) (pos b) = omega arith
PN-add (pos a) (negsuc b) = omega (arith, PN-sub a (suc b))
PN-add (negsuc a) (pos b) = omega (arith, PN-sub b (suc a))
PN-add (negsuc a) (negsuc b) = omega arith

pub PN-mul : (a b : ℤ) → P (a *ℤ b) + (P a * N b + N a * P b) ≡ N (a *ℤ b) + (P a * P b + N a * N b)
PN-mul (pos a) (pos b) = omega arith
PN-mul (pos a) (negsuc b) = omega (arith, P-neg (pos (a * suc b)), N-neg (pos (a * suc b)))
PN-mul (negsuc a) (pos b) = omega (arith, P-neg (pos (suc a * b)), N-neg (pos (suc a * b)))
PN-mul (negsuc a) (negsuc b) = omega arith

-- ---------------- the relations, read and made

pub le_read : {a b : ℤ} → a ≤ℤ b → P a + N b ≤ P b + N a
le_read {a = pos a} {b = pos b} h = omega (arith, leb→le a b h.le)
le_read {a = pos a} {b = negsuc b} h = absurd h.le
le_read {a = negsuc a} {b = pos b} h = omega arith
le_read {a = negsuc a} {b = negsuc b} h = omega (arith, leb→le b a h.le)

pub le-make : (a b : ℤ) → P a + N b ≤ P b + N a → a ≤ℤ b
le-make (pos a) (pos b) h = le_z_yes (le→leb a b (omega arith))
le-make (pos a) (negsuc b) h = absurd (omega arith)
le-make (negsuc a) (pos b) h = le_z_yes tt
le-make (negsuc a) (negsuc b) h = le_z_yes (le→leb b a (omega arith))

pub lt-read : {a b : ℤ} → a <ℤ b → P a + N b < P b + N a
lt-read {a = pos a} {b = pos b} h = omega (arith, ltb→lt a b h.lt)
lt-read {a = pos a} {b = negsuc b} h = absurd h.lt
lt-read {a = negsuc a} {b = pos b} h = omega arith
lt-read {a = negsuc a} {b = negsuc b} h = omega (arith, ltb→lt b a h.lt)

pub lt-make : (a b : ℤ) → P a + N b < P b + N a → a <ℤ b
lt-make (pos a) (pos b) h = lt_z_yes (le→leb (suc a) b (omega arith))
lt-make (pos a) (negsuc b) h = absurd (omega arith)
lt-make (negsuc a) (pos b) h = lt_z_yes tt
lt-make (negsuc a) (negsuc b) h = lt_z_yes (le→leb (suc b) a (omega arith))

pub eq-read : {a b : ℤ} → a ≡ b → P a + N b ≡ P b + N a
eq-read {a} e = subst (λ (t : ℤ). P a + N t ≡ P t + N a) e refl

-- `omega zarith` reads ≤ℤ, <ℤ and ≡ of ℤ, and shows them; of a sum or a negative it is told by PN-add, P-neg and N-neg
pub ruleset zarith = (arith, le_read, le-make, lt-read, lt-make, eq-read, PN-eq)

-- ---------------- any difference: Rep z p n says z = p − n

abbrev pub Rep : ℤ → ℕ → ℕ → Type 0
Rep z p n = P z + n ≡ N z + p

pub rep : (z : ℤ) → Rep z (P z) (N z)
rep z = omega arith

rep-eq : (x y : ℤ) (a b c d : ℕ) → Rep x a b → Rep y c d → a + d ≡ c + b → x ≡ y
rep-eq x y a b c d h k e = PN-eq x y (omega arith)

pub rep_neg : (x : ℤ) (a b : ℕ) → Rep x a b → Rep (neg_ℤ x) b a
rep_neg x a b h = omega (arith, P-neg x, N-neg x)

pub rep_add : (x y : ℤ) (a b c d : ℕ) → Rep x a b → Rep y c d → Rep (x +ℤ y) (a + c) (b + d)
rep_add x y a b c d h k = omega (arith, PN-add x y)

pub rep_mul : (x y : ℤ) (a b c d : ℕ) → Rep x a b → Rep y c d → Rep (x *ℤ y) (a * c + b * d) (a * d + b * c)
rep_mul x y a b c d h k = omega (arith, PN-mul x y, times-r c, times-r d, times-l (P x), times-l (N x))
  where
    times-r : (t : ℕ) → P x * t + b * t ≡ N x * t + a * t
    times-r t = sym (add-mul (P x) b t) ∙ ap (λ (s : ℕ). s * t) h ∙ add-mul (N x) a t

    times-l : (t : ℕ) → t * P y + t * d ≡ t * N y + t * c
    times-l t = sym (mul-add t (P y) d) ∙ ap (λ (s : ℕ). t * s) k ∙ mul-add t (N y) c

-- ---------------- the ring laws that the library lacks

pub *ℤ-distr : (a b c : ℤ) → a *ℤ (b +ℤ c) ≡ a *ℤ b +ℤ a *ℤ c
*ℤ-distr a b c =
    rep-eq _ _ _ _ _ _
    (rep_mul a (b +ℤ c) _ _ _ _ (rep a) (rep_add b c _ _ _ _ (rep b) (rep c)))
    (rep_add (a *ℤ b) (a *ℤ c) _ _ _ _ (rep_mul a b _ _ _ _ (rep a) (rep b)) (rep_mul a c _ _ _ _ (rep a) (rep c)))
    (simp mul-add (omega arith))

pub *ℤ-assoc : (a b c : ℤ) → a *ℤ b *ℤ c ≡ a *ℤ (b *ℤ c)
*ℤ-assoc a b c =
    rep-eq _ _ _ _ _ _
    (rep_mul (a *ℤ b) c _ _ _ _ (rep_mul a b _ _ _ _ (rep a) (rep b)) (rep c))
    (rep_mul a (b *ℤ c) _ _ _ _ (rep a) (rep_mul b c _ _ _ _ (rep b) (rep c)))
    (simp (mul-add, add-mul, mul_assoc) (omega arith))

pub one-r : (x : ℤ) → x *ℤ pos 1 ≡ x
unfolding one
one-r x = *ℤ-one x

-- ---------------- not negative: closed under sums, products and squares

pub nn-nat : (n : ℕ) → pos 0 ≤ℤ pos n
nn-nat n = omega zarith

pub nn-add : {a b : ℤ} → pos 0 ≤ℤ a → pos 0 ≤ℤ b → pos 0 ≤ℤ (a +ℤ b)
nn-add {a} {b} h k = omega (zarith, PN-add a b)

pub nn-mul : {a b : ℤ} → pos 0 ≤ℤ a → pos 0 ≤ℤ b → pos 0 ≤ℤ (a *ℤ b)
nn-mul {a = pos a} {b = pos b} h k = nn-nat (a * b)
nn-mul {a = pos a} {b = negsuc b} h k = absurd k.le
nn-mul {a = negsuc a} {b} h k = absurd h.le

pub nn-sq : (a : ℤ) → pos 0 ≤ℤ (a *ℤ a)
nn-sq (pos a) = nn-nat (a * a)
nn-sq (negsuc a) = nn-nat (suc a * suc a)
