-- Points in the checker: a point of terms, the rules' step, c, t and |u|² of such, and the checkers of `integers`
-- for claims about n points and then m numbers, the parameters of a λ. And when two points are one.
use mathlib.Core.Path.{◌≡◌}
use mathlib.Core.List.{List, [], ◌∷◌}
use Prim.Native.Nat.{ℕ, zero, suc}
use lib.Dec.{T}
use lib.IntN.{ℤ}
use mir.Facts.{and_yes}
use Rattle.integers.specs.Order.{eq_z, eq_z-yes}
use Rattle.integers.specs.Poly.{◌:-◌}
use Rattle.integers.specs.Check.{Fun, Every, vars, Expr, Stmt, Holds, Given, Says, num, checks, ring, Claim, valid}
use Rattle.integers.specs.Check.{prove, Scaled, valid-scaled, scaled, Clash, clashes, refute}
use Rattle.rules.specs.declared.Point.{Point}
use Rattle.rules.specs.Plane.{same_point}
use Rattle.visits.proofs.Terms.{c_e, t_e, size_e}

-- ---------------- points of terms

pub record PointE : Type 0 where
  pub x : Expr
  pub y : Expr

abbrev pub step_e : PointE → PointE → PointE
step_e a b = record { x = b.x :- a.x; y = b.y :- a.y }

abbrev pub size²E : PointE → Expr
size²E u = size_e u.x u.y

abbrev pub c_at_e : PointE → PointE → PointE → Expr
c_at_e s u p = c_e s.x s.y u.x u.y p.x p.y

abbrev pub t_at_e : PointE → PointE → PointE → Expr
t_at_e s u p = t_e s.x s.y u.x u.y p.x p.y

-- ---------------- the checkers

-- a function of n points and m numbers, as one of their coordinates
abbrev pub OfPoints : ℕ → ℕ → Type 0 → Type 0
OfPoints zero m B = Fun m Expr B
OfPoints (suc n) m B = PointE → OfPoints n m B

abbrev pub coordinates : ℕ → ℕ → ℕ
coordinates zero m = m
coordinates (suc n) m = suc (suc (coordinates n m))

abbrev pub spread : (B : Type 0) (n m : ℕ) → OfPoints n m B → Fun (coordinates n m) Expr B
spread B zero m f = f
spread B (suc n) m f = λ x y. spread B n m (f (record { x = x; y = y }))

abbrev pub claimed : {B : Type 0} (n m : ℕ) → OfPoints n m B → B
claimed {B} n m f = vars (coordinates n m) (spread B n m f)

-- Q of the coordinates of every n points and of every m numbers
abbrev pub EveryPoint : ℕ → ℕ → (List ℤ → Type 0) → Type 0
EveryPoint zero m Q = Every m Q
EveryPoint (suc n) m Q = (p : Point) → EveryPoint n m (λ ρ. Q (p.x ∷ p.y ∷ ρ))

at-points : (n m : ℕ) (Q : List ℤ → Type 0) → Every (coordinates n m) Q → EveryPoint n m Q
at-points zero m Q h = h
at-points (suc n) m Q h = λ p. at-points n m (λ ρ. Q (p.x ∷ p.y ∷ ρ)) (h p.x p.y)

-- an identity, a goal from hypotheses, a goal up to a factor, a contradiction: as `ring`, `prove`, `scaled` and
-- `refute`
pub ring_of : (n m : ℕ) (f : OfPoints n m Stmt) → T (checks [] (claimed n m f) (num 0) (num 0))
    → EveryPoint n m (Holds (claimed n m f))
ring_of n m f t = at-points n m _ (ring (coordinates n m) (spread Stmt n m f) t)

pub prove-of : (n m : ℕ) (f : OfPoints n m Claim) → T (valid (claimed n m f))
    → EveryPoint n m (Says (claimed n m f).0 (claimed n m f).1)
prove-of n m f t = at-points n m _ (prove (coordinates n m) (spread Claim n m f) t)

pub scaled-of : (n m : ℕ) (f : OfPoints n m Scaled) → T (valid-scaled (claimed n m f))
    → EveryPoint n m (Says (claimed n m f).0 (claimed n m f).1)
scaled-of n m f t = at-points n m _ (scaled (coordinates n m) (spread Scaled n m f) t)

pub refute-of : (n m : ℕ) (f : OfPoints n m Clash) → T (clashes (claimed n m f))
    → EveryPoint n m (λ ρ. Given (claimed n m f).0 ρ ⊥)
refute-of n m f t = at-points n m _ (refute (coordinates n m) (spread Clash n m f) t)

-- ---------------- one point

-- points of equal coordinates are one
pub one-point : {a b : Point} → a.x ≡ b.x → a.y ≡ b.y → a ≡ b
one-point ex ey = λ i. record { x = ex i; y = ey i }

-- and so are those that the test finds the same
pub same_point_lem : (a b : Point) → T (same_point a b) → a ≡ b
same_point_lem a b t =
    let h = and_yes (eq_z a.x b.x) (eq_z a.y b.y) t in
    one-point {a = a} {b = b} (eq_z-yes h.0) (eq_z-yes h.1)
