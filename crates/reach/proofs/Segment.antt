-- The three cases of the distance to a segment, by the tests that the code makes.
use mathlib.Core.Path.{◌≡◌, sym, ◌∙◌, ap}
use mathlib.Core.Bool.{true, false, not}
use lib.IntN.{ℤ, pos, ◌+ℤ◌, ◌*ℤ◌, +ℤ_idr}
use lib.Signed.{le_z, lt_z}
use Rattle.integers.specs.Order.{le_not}
use Rattle.rules.specs.declared.Point.{Point}
use Rattle.rules.specs.Plane.{step, size², c_at, t_at}
use Rattle.rules.specs.Plain.{within}

module _ (z a b : Point) (D : ℤ) where
  -- before the start
  pub within-start : le_z (t_at a (step a b) z) (pos 0) ≡ true → not (lt_z (D *ℤ D) (size² (step a z))) ≡ within z a b D
  unfolding within
  within-start e =
      sym (le_not (size² (step a z)) (D *ℤ D)) ∙ sym (simp e)

  module _ (e : le_z (t_at a (step a b) z) (pos 0) ≡ false) where
    -- past the end
    pub within_end : le_z (size² (step a b)) (t_at a (step a b) z) ≡ true
        → not (lt_z (D *ℤ D) (size² (step b z))) ≡ within z a b D
    unfolding within
    within_end f = sym (le_not (size² (step b z)) (D *ℤ D)) ∙ sym (simp (e, f))

    -- along it
    pub within-along : le_z (size² (step a b)) (t_at a (step a b) z) ≡ false
        → not (lt_z (D *ℤ D *ℤ size² (step a b)) (c_at a (step a b) z *ℤ c_at a (step a b) z +ℤ pos 0)) ≡ within z a b D
    unfolding within
    within-along f =
        ap (λ (m : ℤ). not (lt_z (D *ℤ D *ℤ size² (step a b)) m)) (+ℤ_idr (c_at a (step a b) z *ℤ c_at a (step a b) z))
        ∙ sym (le_not (c_at a (step a b) z *ℤ c_at a (step a b) z) (D *ℤ D *ℤ size² (step a b)))
        ∙ sym (simp (e, f))
