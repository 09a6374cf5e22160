-- Small laws of tests, beside those of the libraries: what follows from one of several, from all of them, from none.
use mathlib.Core.Path.{◌≡◌}
use mathlib.Core.Bool.{Bool, true, false, ◌&&◌, ◌||◌}
use mathlib.Core.Logic.{◌↔◌, ⊎_elim}
use Prim.Native.Nat.{ℕ}
use native.Mathlib.Omega.{arith}
use lib.Dec.{T, T_not}
use lib.IntN.{ℤ}
use lib.Signed.{◌≤ℤ◌, ◌<ℤ◌}
use mir.Facts.{and_yes, or_yes}
use Rattle.integers.specs.Order.{≤ℤ-or-<ℤ, T_true, T_false, yes-T, no-T}

-- what follows from an equation of two constructors, by `never (cc)`
pub never : {A : Type 0} → ◌≡◌ {A = ℕ} 0 1 → A
never e = absurd (omega arith)

-- what follows from each of two tests follows from either
pub either : {A : Type 0} (a b : Bool) → (T a → A) → (T b → A) → T (a || b) → A
either a b f g t = ⊎_elim f g (or_yes a b t)

-- four tests, one of them or all of them
pub four-either : {A : Type 0} (a b c d : Bool) → (T a → A) → (T b → A) → (T c → A) → (T d → A) → T (a || b || c || d)
    → A
four-either a b c d f g h k = either (a || b || c) d (either (a || b) c (either a b f g) h) k

pub four-yes : (a b c d : Bool) → T (a && b && c && d) → T a × T b × T c × T d
four-yes a b c d t =
    let p = and_yes (a && b && c) d t in
    let q = and_yes (a && b) c p.0 in
    let r = and_yes a b q.0 in (r.0, r.1, q.1, p.1)

-- a test that says yes exactly where A holds says no exactly where it does not
pub no-exactly : {A : Type 0} (b : Bool) → (b ≡ true) ↔ A → (b ≡ false) ↔ (¬ A)
no-exactly b h = (λ e a. T_not b (T_false e) (T_true (h.1 a)), λ n. no-T b (λ t. n (h.0 (yes-T b t))))

-- of two numbers, what is not above is at most, and what is not at most is above
pub ≤ℤ-unless : {a b : ℤ} → (b <ℤ a → ⊥) → a ≤ℤ b
≤ℤ-unless {a} {b} f = ⊎_elim (λ h. h) (λ h. absurd (f h)) (≤ℤ-or-<ℤ a b)

pub <ℤ-unless : {a b : ℤ} → (b ≤ℤ a → ⊥) → a <ℤ b
<ℤ-unless {a} {b} f = ⊎_elim (λ h. absurd (f h)) (λ h. h) (≤ℤ-or-<ℤ b a)
