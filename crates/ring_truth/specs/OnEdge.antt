-- What it means that z is on the segment from a to b, without a division: z is a weighted mean of a and b.
use Rattle.std.specs.Prelude.{◌≡◌}
use Rattle.rules.specs.declared.Point.{Point}
use Rattle.visits.specs.Weights.{Weights, total, times, weighed}

-- (p + q)·z = p·a + q·b
pub record Lies (z a b : Point) : Type 0 where
  pub weights : Weights
  pub mean : times (total weights) z ≡ weighed weights a b
