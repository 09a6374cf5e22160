-- How large a distance and its square can be, and how far z falls short of a strip.
use mathlib.Core.Path.{◌≡◌, refl, sym, ap, ◌∙◌, subst}
use mathlib.Core.Bool.{cond}
use Prim.Native.Nat.{ℕ, ◌*◌, ◌≤◌}
use native.Mathlib.Nat.{le_trans}
use lib.Dec.{T, leb, leb→le}
use lib.IntN.{ℤ, pos, neg_ℤ, nat_abs, ◌-ℤ◌, ◌*ℤ◌}
use lib.Signed.{le_z, lt_z, ◌≤ℤ◌, ◌<ℤ◌, le_z_yes, lt_z_yes, non_neg}
use mir.Syntax.{w64}
use mir.Val.{Fits, to_z, of_z}
use mir.Facts.{and_yes}
use Rattle.integers.specs.Laws.{zarith, cond_ind, PN-add, P-neg, N-neg, nn-add, nn-sq}
use Rattle.integers.specs.Poly.{◌:*◌}
use Rattle.integers.specs.Range.{Abs≤, abs-of, abs-lo, abs-hi, abs-at, abs-weaken, fits-of, nil, ◌&◌}
use Rattle.integers.proofs.Bounded.{within}
use Rattle.integers.specs.Machine.{nat-cast}
use Rattle.rules.specs.Sheet.{farthest, distance_fits}
use Rattle.rules.specs.Questions.{shortfall}
use Rattle.rules.specs.declared.Point.{Point}
use Rattle.rules.specs.Plane.{size²}
use Rattle.limits.specs.Small.{Small}
use Rattle.limits.proofs.Sizes.{size-wide}
use Rattle.large.specs.Value.{roomy}
use Rattle.line.proofs.Stored.{stored}
use Rattle.reach.specs.Bounds.{ReachFits}

-- a distance that passed refusal 7
pub distance-abs : (D : ℤ) → T (distance_fits D) → Abs≤ farthest D
distance-abs D t =
    let h = and_yes (le_z (pos 0) D) (le_z D (pos farthest)) t in
    let l = le_z_yes {a = pos 0} {b = D} h.0 in
    abs-of (omega (zarith, P-neg (pos farthest), N-neg (pos farthest))) (le_z_yes h.1)

-- and its square
pub square-abs : {D : ℤ} → Abs≤ farthest D → Abs≤ (farthest * farthest) (D *ℤ D)
square-abs h = within 1 (λ d. d :* d) (h & nil)

-- ---------------- what is compared in two words is no larger than those take
pub reach-roomy : {reach : ℕ} → ReachFits reach → reach ≤ roomy
reach-roomy h = le_trans h (leb→le (farthest * farthest) roomy tt)

pub magnitude-roomy : {B m : ℕ} {x : ℤ} → m ≡ nat_abs x → Abs≤ B x → T (leb B roomy) → m ≤ roomy
magnitude-roomy e h t = subst (λ (k : ℕ). k ≤ roomy) (sym e) (abs-weaken h t).abs

-- |u|^2, as it is read back and cast
module _ {u : Point} {v : ℤ} (small : Small u) (e : v ≡ size² u) where
  pub size-stored : to_z w64 (of_z w64 v) ≡ size² u
  size-stored = ap (λ (z : ℤ). to_z w64 (of_z w64 z)) e ∙ stored (size-wide small) tt

  pub size_above : pos 0 ≤ℤ to_z w64 (of_z w64 v)
  size_above = subst (λ (z : ℤ). pos 0 ≤ℤ z) (sym size-stored) (nn-add (nn-sq u.x) (nn-sq u.y))

  pub size-cast : T (non_neg (to_z w64 (of_z w64 v))) × Fits w64 (nat_abs (to_z w64 (of_z w64 v)))
  size-cast =
      nat-cast {w = w64} {w' = w64} (fits-of w64 (abs-at (sym size-stored) (size-wide small)) tt) tt refl size_above

  pub size-roomy : nat_abs (to_z w64 (of_z w64 v)) ≤ roomy
  size-roomy = magnitude-roomy (ap nat_abs size-stored) (size-wide small) tt

-- ---------------- what v lacks of a range that holds 0 is at most |v|
below-short : {B : ℕ} {lo v : ℤ} → Abs≤ B v → lo ≤ℤ pos 0 → v <ℤ lo → Abs≤ B (lo -ℤ v)
below-short {B} {lo} {v} h l k =
    let b = abs-lo h in
    abs-of (omega (zarith, PN-add lo (neg_ℤ v), P-neg v, N-neg v, P-neg (pos B), N-neg (pos B)))
    (omega (zarith, PN-add lo (neg_ℤ v), P-neg v, N-neg v, P-neg (pos B), N-neg (pos B)))

above-short : {B : ℕ} {hi v : ℤ} → Abs≤ B v → pos 0 ≤ℤ hi → hi <ℤ v → Abs≤ B (v -ℤ hi)
above-short {B} {hi} {v} h l k =
    let b = abs-hi h in
    abs-of (omega (zarith, PN-add v (neg_ℤ hi), P-neg hi, N-neg hi, P-neg (pos B), N-neg (pos B)))
    (omega (zarith, PN-add v (neg_ℤ hi), P-neg hi, N-neg hi, P-neg (pos B), N-neg (pos B)))

pub shortfall-wide : {B : ℕ} {lo hi v : ℤ} → Abs≤ B v → lo ≤ℤ pos 0 → pos 0 ≤ℤ hi → Abs≤ B (shortfall lo hi v)
unfolding shortfall
shortfall-wide {B} {lo} {hi} {v} h low high =
    cond_ind (lt_z v lo) (lo -ℤ v) (cond (lt_z hi v) (v -ℤ hi) (pos 0)) (Abs≤ B) (λ t. below-short h low (lt_z_yes t))
    (λ t. cond_ind (lt_z hi v) (v -ℤ hi) (pos 0) (Abs≤ B) (λ t. above-short h high (lt_z_yes t))
    (λ t. record { abs = omega zarith }))
