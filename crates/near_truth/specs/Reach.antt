-- What "z is within D of the segment a to b" means, without division: some point of the segment is at most D away
-- from z. And what it is that a strip holds a point.
use Rattle.std.specs.Prelude.{Bool, ◌&&◌, List, ℕ, suc, ◌<◌, ℤ, ◌*ℤ◌, ◌≤ℤ◌}
use Rattle.rules.specs.declared.Point.{Point}
use Rattle.rules.specs.declared.Row.{Row}
use Rattle.rules.specs.Plane.{step, size², c_at, t_at}
use Rattle.rules.specs.Sheet.{point, segments_of}
use Rattle.rules.specs.Build.{holds_number}
use Rattle.visits.specs.Weights.{Weights, total, times, weighed}

-- p + q times the way from a point of the segment to z: (p + q)·z − (p·a + q·b)
abbrev pub away : Weights → Point → Point → Point → Point
away w z a b = step (weighed w a b) (times (total w) z)

-- The squared distance from that point to z is |(p + q)·z − (p·a + q·b)|²/(p + q)², and that is at most D².
pub record Reach (z a b : Point) (D : ℤ) : Type 0 where
  pub weights : Weights
  pub at_most : size² (away weights z a b) ≤ℤ (total weights *ℤ total weights *ℤ (D *ℤ D))

-- some point of the line is at most D away from z: a point of one of its segments
pub record LineReach (ps : List ℤ) (z : Point) (D : ℤ) : Type 0 where
  pub segment : ℕ
  pub of-line : segment < segments_of ps
  pub reach : Reach z (point ps segment) (point ps (suc segment)) D

-- the strip of row r, from s along u, holds p
abbrev pub strip_holds : Row → Point → Point → Point → Bool
strip_holds r s u p = holds_number r.cmin r.cmax (c_at s u p) && holds_number r.tmin r.tmax (t_at s u p)
