-- The last point of a run, in its own strip: c is 0 there, and t is the square of the step from the first point, which
-- is not below 0.
use mathlib.Core.Path.{◌≡◌, refl, sym, ap, ◌∙◌}
use lib.IntN.{ℤ, pos}
use lib.Signed.{◌≤ℤ◌, ≤ℤ_refl}
use Rattle.integers.specs.Laws.{cond_ind}
use Rattle.integers.specs.Check.{con, ◌:+◌, ◌:*◌, ◌:-◌, ◌:=◌, ring}
use Rattle.integers.specs.Order.{min_z, max_z, min-l, min-greatest, max-r, max_least, ≤ℤ-antisym, nn-add, nn-sq}
use Rattle.rules.specs.declared.Point.{Point}
use Rattle.rules.specs.Plane.{same_point, step, direction, size², c_at, t_at}
use Rattle.visits.proofs.Terms.{c-start, t-start}
use Rattle.visits.proofs.Points.{same_point_lem}

-- 0 beside a number that is not below it
min-zero : {z : ℤ} → pos 0 ≤ℤ z → min_z (pos 0) z ≡ pos 0
min-zero {z} h = ≤ℤ-antisym (min-l (pos 0) z) (min-greatest (≤ℤ_refl (pos 0)) h)

max-zero : {z : ℤ} → pos 0 ≤ℤ z → max_z (pos 0) z ≡ z
max-zero {z} h = ≤ℤ-antisym (max_least h (≤ℤ_refl z)) (max-r (pos 0) z)

module _ (s e : Point) where
  -- the direction where both points are equal
  abbrev flat : Point
  flat = record { x = pos 1; y = pos 0 }

  pub c-end : c_at s (direction s e) e ≡ pos 0
  unfolding direction
  c-end =
      cond_ind (same_point s e) flat (step s e) (λ u. c_at s u e ≡ pos 0)
      (λ t. ap (c_at s flat) (sym (same_point_lem s e t)) ∙ c-start s flat)
      (λ _. ring 4 (λ x y v w. (v :- x) :* (w :- y) :- (w :- y) :* (v :- x) := con (pos 0)) tt s.x s.y e.x
      e.y)

  pub t-end : t_at s (direction s e) e ≡ size² (step s e)
  unfolding direction
  t-end =
      cond_ind (same_point s e) flat (step s e) (λ u. t_at s u e ≡ size² (step s e))
      (λ t.
      let same = same_point_lem s e t in
      ap (t_at s flat) (sym same) ∙ t-start s flat ∙ sym still ∙ ap (λ (p : Point). size² (step s p)) same)
      (λ _. refl)
    where
      still : size² (step s s) ≡ pos 0
      still = ring 2 (λ x y. (x :- x) :* (x :- x) :+ (y :- y) :* (y :- y) := con (pos 0)) tt s.x s.y

  -- the least and the greatest of both ends
  abbrev u : Point
  u = direction s e

  pub square : pos 0 ≤ℤ size² (step s e)
  square = nn-add (nn-sq (step s e).x) (nn-sq (step s e).y)

  pub c-least : min_z (c_at s u s) (c_at s u e) ≡ pos 0
  c-least = λ d. min_z (c-start s u d) (c-end d)

  pub c-greatest : max_z (c_at s u s) (c_at s u e) ≡ pos 0
  c-greatest = λ d. max_z (c-start s u d) (c-end d)

  pub t-least : min_z (t_at s u s) (t_at s u e) ≡ pos 0
  t-least = (λ d. min_z (t-start s u d) (t-end d)) ∙ min-zero square

  pub t-greatest : max_z (t_at s u s) (t_at s u e) ≡ size² (step s e)
  t-greatest = (λ d. max_z (t-start s u d) (t-end d)) ∙ max-zero square
