-- Affine functions of the plane. What a row measures of a point is affine: x, y, c and t. So a dismissal by any of them
-- is a dismissal by an affine function.
use mathlib.Core.Path.{◌≡◌}
use lib.IntN.{ℤ, pos, neg_ℤ, ◌+ℤ◌, ◌-ℤ◌, ◌*ℤ◌}
use Rattle.integers.specs.Poly.{Expr, con, ◌:+◌, ◌:*◌, ◌:-◌, :neg}
use Rattle.integers.specs.Check.{Stmt, ◌:=◌}
use Rattle.rules.specs.declared.Point.{Point}
use Rattle.rules.specs.Plane.{c_at, t_at}
use Rattle.visits.proofs.Points.{PointE, c_at_e, t_at_e, ring_of}

pub record Affine (f : Point → ℤ) : Type 0 where
  pub α : ℤ
  pub β : ℤ
  pub γ : ℤ
  pub is : (p : Point) → f p ≡ α *ℤ p.x +ℤ β *ℤ p.y +ℤ γ

-- that v is such a function at p, as a term
abbrev pub affine_e : Expr → Expr → Expr → PointE → Expr → Stmt
affine_e α β γ p v = v := α :* p.x :+ β :* p.y :+ γ

abbrev no : Expr
no = con (pos 0)

pub x-affine : Affine (λ p. p.x)
x-affine = record { α = pos 1; β = pos 0; γ = pos 0; is = ring_of 1 0 (λ p. affine_e (con (pos 1)) no no p p.x) tt }

pub y-affine : Affine (λ p. p.y)
y-affine = record { α = pos 0; β = pos 1; γ = pos 0; is = ring_of 1 0 (λ p. affine_e no (con (pos 1)) no p p.y) tt }

pub c-affine : (s u : Point) → Affine (c_at s u)
c-affine s u = record {
  α = neg_ℤ u.y;
  β = u.x;
  γ = u.y *ℤ s.x -ℤ u.x *ℤ s.y;
  is = ring_of 3 0 (λ s u p. affine_e (:neg u.y) u.x (u.y :* s.x :- u.x :* s.y) p (c_at_e s u p)) tt s u;
}

pub t-affine : (s u : Point) → Affine (t_at s u)
t-affine s u = record {
  α = u.x;
  β = u.y;
  γ = neg_ℤ (u.x *ℤ s.x +ℤ u.y *ℤ s.y);
  is = ring_of 3 0 (λ s u p. affine_e u.x u.y (:neg (u.x :* s.x :+ u.y :* s.y)) p (t_at_e s u p)) tt s u;
}
