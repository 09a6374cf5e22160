-- Sizes for which the machine's 64-bit arithmetic is exact.
use Rattle.std.specs.Prelude.{ℕ, ◌*◌}
use Rattle.integers.specs.Range.{Abs≤}
use Rattle.rules.specs.declared.Point.{Point}
use Rattle.rules.specs.Sheet.{limit}

-- both coordinates are at most m, to either side
pub record Within (m : ℕ) (p : Point) : Type 0 where
  pub x-in : Abs≤ m p.x
  pub y-in : Abs≤ m p.y

-- a point on the sheet
abbrev pub OnSheet : Point → Type 0
OnSheet p = Within limit p

-- a step between two points on the sheet, or (1, 0)
abbrev pub Small : Point → Type 0
Small u = Within (2 * limit) u

-- |c|, |t| and |u|^2 on the sheet
abbrev pub widest : ℕ
widest = 2 * (2 * limit) * (2 * limit)
