-- A rational point of the segment a to b without a division: (p·a + q·b) / (p + q), with weights that are not
-- negative and not both 0.
use Rattle.std.specs.Prelude.{ℤ, pos, ◌+ℤ◌, ◌*ℤ◌, ◌≤ℤ◌, ◌<ℤ◌}
use Rattle.rules.specs.declared.Point.{Point}

pub record Weights : Type 0 where
  pub p : ℤ
  pub q : ℤ
  pub p≥0 : pos 0 ≤ℤ p
  pub q≥0 : pos 0 ≤ℤ q
  pub some : pos 0 <ℤ (p +ℤ q)

-- p + q
abbrev pub total : Weights → ℤ
total w = w.p +ℤ w.q

-- k·z
abbrev pub times : ℤ → Point → Point
times k z = record { x = k *ℤ z.x; y = k *ℤ z.y }

-- p·a + q·b, of numbers and of points: p + q times the mean
abbrev pub mixed : Weights → ℤ → ℤ → ℤ
mixed w a b = w.p *ℤ a +ℤ w.q *ℤ b

abbrev pub weighed : Weights → Point → Point → Point
weighed w a b = record { x = mixed w a.x b.x; y = mixed w a.y b.y }
