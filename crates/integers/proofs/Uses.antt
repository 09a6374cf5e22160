-- One worked use of each checker, in the form in which a proof elsewhere writes it: the statement in ℤ, and one line
-- that
-- says it again as a term, with the reason.
use mathlib.Core.Path.{◌≡◌}
use mathlib.Core.List.{[], ◌∷◌}
use native.Mathlib.Omega.{arith}
use lib.IntN.{ℤ, pos, negsuc, ◌+ℤ◌, ◌-ℤ◌, ◌*ℤ◌}
use lib.Signed.{◌≤ℤ◌, ◌<ℤ◌}
use mir.Syntax.{w32, w64}
use mir.Val.{SFits, to_z, of_z}
use Rattle.integers.specs.Laws.{zarith}
use Rattle.integers.specs.Check.{con, ◌:+◌, ◌:*◌, ◌:-◌, :neg, ◌:≤◌, ◌:=◌, hyp, num, sqr, mul, ◌⊞◌, ring, prove}
use Rattle.integers.specs.Check.{scaled, refute, lin}
use Rattle.integers.specs.Range.{Abs≤, Each, nil, ◌&◌}
use Rattle.integers.proofs.Bounded.{within, fits}
use Rattle.integers.specs.Machine.{In, at_width, rd, ◌⊗◌, in-fits, ins-abs}
use Rattle.integers.proofs.Worth.{safe-step, reads}
use Rattle.integers.specs.Ops.{Ops, onℤ, on_e, on_m}

-- ---------------- a formula, once for all readings

module _ {A : Type 0} (R : Ops A) where
  open R use {◌⊹◌, ◌∸◌, ◌⋆◌}

  infixl 6 ◌⊹◌ ◌∸◌
  infixl 7 ◌⋆◌
  abbrev pub dot : A → A → A → A → A
  dot a b x y = a ⋆ x ⊹ b ⋆ y

  abbrev pub det : A → A → A → A → A
  det a b x y = a ⋆ y ∸ b ⋆ x

-- ---------------- an identity

-- (ay − bx)² + (ax + by)² = (a² + b²)(x² + y²)
pub lagrange : (a b x y : ℤ)
    → det onℤ a b x y *ℤ det onℤ a b x y +ℤ dot onℤ a b x y *ℤ dot onℤ a b x y ≡ dot onℤ a b a b *ℤ dot onℤ x y x y
lagrange =
    ring 4
    (λ a b x y.
    det on_e a b x y :* det on_e a b x y :+ dot on_e a b x y :* dot on_e a b x y := dot on_e a b a b :* dot on_e x y x y) tt

-- ---------------- an inequality, and an equation from equations

-- (ax + by)² ≤ (a² + b²)(x² + y²)
pub cauchy : (a b x y : ℤ) → (dot onℤ a b x y *ℤ dot onℤ a b x y) ≤ℤ (dot onℤ a b a b *ℤ dot onℤ x y x y)
cauchy =
    prove 4
    (λ a b x y.
    ([], dot on_e a b x y :* dot on_e a b x y :≤ dot on_e a b a b :* dot on_e x y x y, sqr (det on_e a b x y))) tt

-- an equation counts at a multiple of any sign
pub twice-≤-squares : (x y : ℤ) → x *ℤ y ≡ pos 1 → (pos 2 *ℤ x) ≤ℤ (x *ℤ (x +ℤ x *ℤ y *ℤ y))
twice-≤-squares =
    prove 2
    (λ x y. (
      (x :* y := con (pos 1)) ∷ [],
      con (pos 2) :* x :≤ x :* (x :+ x :* y :* y),
      sqr (x :- con (pos 1)) ⊞ mul (:neg (x :* y :+ con (pos 1))) 0,
    )) tt

pub nine : (a b c : ℤ) → a ≡ b +ℤ c → c ≡ pos 2 *ℤ b → a *ℤ a ≡ pos 9 *ℤ b *ℤ b
nine =
    prove 3
    (λ a b c. (
      (a := b :+ c) ∷ (c := con (pos 2) :* b) ∷ [],
      a :* a := con (pos 9) :* b :* b,
      mul (a :+ con (pos 3) :* b) 0 ⊞ mul (a :+ con (pos 3) :* b) 1,
    )) tt

-- ---------------- a factor cancelled, and a contradiction

-- 2a ≤ 2b + 1 gives a ≤ b: (1 + 1)·(b − a) + 1 is the slack of the hypothesis
pub half : (a b : ℤ) → (pos 2 *ℤ a) ≤ℤ (pos 2 *ℤ b +ℤ pos 1) → a ≤ℤ b
half = scaled 2 (λ a b. ((con (pos 2) :* a :≤ con (pos 2) :* b :+ con (pos 1)) ∷ [], a :≤ b, num 1, hyp 0)) tt

pub no-root : (x : ℤ) → x *ℤ x ≡ negsuc 0 → ⊥
no-root = refute 1 (λ x. ((x :* x := con (negsuc 0)) ∷ [], hyp 0 ⊞ sqr x)) tt

-- ---------------- linear facts

pub spread : (x s : ℤ) → x ≤ℤ pos 16383 → negsuc 16382 ≤ℤ s → (x -ℤ s) ≤ℤ pos 32766
spread =
    lin 2 (λ x s. ((x :≤ con (pos 16383)) ∷ (con (negsuc 16382) :≤ s) ∷ [], x :- s :≤ con (pos 32766))) (omega arith)

pub between : (a b c : ℤ) → a <ℤ b → b ≤ℤ c → c ≤ℤ (pos 5) → a ≤ℤ pos 4
between a b c h k l = omega zarith

-- ---------------- ranges, of numbers and of a machine's steps

pub det-range : {a b x y : ℤ} → Abs≤ 32766 a → Abs≤ 32766 b → Abs≤ 32766 x → Abs≤ 32766 y
    → Abs≤ 2147221512 (det onℤ a b x y)
det-range ha hb hx hy = within 4 (det on_e) (ha & hb & hx & hy & nil)

pub det-fits : {a b x y : ℤ} → Abs≤ 32766 a → Abs≤ 32766 b → Abs≤ 32766 x → Abs≤ 32766 y → SFits w32 (det onℤ a b x y)
det-fits ha hb hx hy = fits 4 w32 (det on_e) (ha & hb & hx & hy & nil) tt

-- the same in a machine: its second step fits, and its result is the number
pub det-steps : {a b x y : ℤ} → Each In (at_width w32 (32766 ∷ 32766 ∷ 32766 ∷ 32766 ∷ [])) (a ∷ b ∷ x ∷ y ∷ [])
    → SFits w64 (to_z w32 (of_z w32 b) *ℤ to_z w32 (of_z w32 x))
det-steps h = safe-step 4 (det (on_m w64)) 1 h tt

pub det-reads : {a b x y : ℤ} → Abs≤ 32766 a → Abs≤ 32766 b → Abs≤ 32766 x → Abs≤ 32766 y
    → to_z w32 (of_z w32 (to_z w32 (of_z w32 (to_z w32 (of_z w32 a) *ℤ to_z w32 (of_z w32 y)))
    -ℤ to_z w32 (of_z w32 (to_z w32 (of_z w32 b) *ℤ to_z w32 (of_z w32 x)))))
    ≡ det onℤ a b x y
det-reads ha hb hx hy = reads 4 (det (on_m w32)) (ins-abs w32 (ha & hb & hx & hy & nil) tt) tt

-- two i32 made i64, multiplied, and the product stored
pub product : {a b : ℤ} → SFits w32 a → SFits w32 b
    → to_z w64 (of_z w64 (to_z w64 (of_z w64 (to_z w32 (of_z w32 a))) *ℤ to_z w64 (of_z w64 (to_z w32 (of_z w32 b))))) ≡ a *ℤ b
product f g = reads 2 (λ a b. rd w64 (rd w64 a ⊗ rd w64 b)) (in-fits f & in-fits g & nil) tt
