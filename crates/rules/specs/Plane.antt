-- docs/RULES.md, section 2.1: points, the step u, c and t. Over all of ℤ.
use Rattle.std.specs.Prelude.{Bool, cond, ◌&&◌, ℤ, pos, ◌+ℤ◌, ◌-ℤ◌, ◌*ℤ◌}
use Rattle.rules.specs.declared.Point.{Point}
-- a = b as a test, the lesser and the greater of two numbers
pub use Rattle.integers.specs.Order.{eq_z, min_z, max_z}

abbrev pub same_point : Point → Point → Bool
same_point a b = eq_z a.x b.x && eq_z a.y b.y

-- the step from a to b
abbrev pub step : Point → Point → Point
step a b = record { x = b.x -ℤ a.x; y = b.y -ℤ a.y }

-- u is the step from first to last point; where these points are equal, u = (1, 0)
unfoldable pub direction : Point → Point → Point
direction a b = cond (same_point a b) (record { x = pos 1; y = pos 0 }) (step a b)

-- |u|^2
abbrev pub size² : Point → ℤ
size² u = u.x *ℤ u.x +ℤ u.y *ℤ u.y

-- c(p) = dx*(py - sy) - dy*(px - sx)
abbrev pub c_at : Point → Point → Point → ℤ
c_at s u p = u.x *ℤ (p.y -ℤ s.y) -ℤ u.y *ℤ (p.x -ℤ s.x)

-- t(p) = dx*(px - sx) + dy*(py - sy)
abbrev pub t_at : Point → Point → Point → ℤ
t_at s u p = u.x *ℤ (p.x -ℤ s.x) +ℤ u.y *ℤ (p.y -ℤ s.y)
