-- A direction turned to the left by a right angle.
use Rattle.std.specs.Prelude.{neg_ℤ}
use Rattle.rules.specs.declared.Point.{Point}

abbrev pub turned : Point → Point
turned u = record { x = neg_ℤ u.y; y = u.x }
