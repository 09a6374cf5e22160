-- Where a node heads whose points differ: along its step.
use mathlib.Core.Path.{◌≡◌}
use mathlib.Core.Bool.{false, cond}
use lib.IntN.{pos}
use Rattle.rules.specs.declared.Point.{Point}
use Rattle.rules.specs.Plane.{same_point, step, direction}

pub heads-along : (a b : Point) → same_point a b ≡ false → direction a b ≡ step a b
unfolding direction
heads-along a b e = λ d. cond (e d) (record { x = pos 1; y = pos 0 }) (step a b)
