-- What makes the squared comparisons of NEAR exact.
use Rattle.std.specs.Prelude.{ℕ, ◌*◌, ◌≤◌}
use Rattle.rules.specs.Sheet.{farthest}

-- the reach is the square of a distance that fits
abbrev pub ReachFits : ℕ → Type 0
ReachFits reach = reach ≤ farthest * farthest
