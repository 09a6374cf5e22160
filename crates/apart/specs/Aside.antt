-- Two points beside a line through two others.
use Rattle.std.specs.Prelude.{Bool}
use Rattle.rules.specs.declared.Point.{Point}
use Rattle.rules.specs.Plane.{step, c_at}
use Rattle.rules.specs.Plain.{one_side}

-- c and d lie on one side of the line through a and b
abbrev pub both_aside : Point → Point → Point → Point → Bool
both_aside a b c d = one_side (c_at a (step a b) c) (c_at a (step a b) d)
