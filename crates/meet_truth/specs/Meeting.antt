-- What it means that two segments share a point, and that two lines do, without a division and without the rules'
-- test of boxes and sides.
use Rattle.std.specs.Prelude.{◌≡◌, List, ℕ, suc, ◌<◌, ℤ}
use Rattle.rules.specs.declared.Point.{Point}
use Rattle.rules.specs.Sheet.{point, segments_of}
use Rattle.visits.specs.Weights.{Weights, total, times, weighed}

-- One rational point lies on both segments: (p·a + q·b) / (p + q) on a to b is (r·c + s·d) / (r + s) on c to d.
pub record Meeting (a b c d : Point) : Type 0 where
  pub on-ab : Weights
  pub on-cd : Weights
  pub same : times (total on-cd) (weighed on-ab a b) ≡ times (total on-ab) (weighed on-cd c d)

-- Some segment of A and some segment of B meet; segment i goes from point i to point i + 1.
pub record LinesMeet (ps qs : List ℤ) : Type 0 where
  pub i : ℕ
  pub j : ℕ
  pub of-A : i < segments_of ps
  pub of-B : j < segments_of qs
  pub meeting : Meeting (point ps i) (point ps (suc i)) (point qs j) (point qs (suc j))
