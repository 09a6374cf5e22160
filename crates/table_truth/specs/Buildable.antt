-- What a line and a lent table are when building refuses nothing: not one of the refusals 1 to 6 holds.
use Rattle.std.specs.Prelude.{◌≡◌, true, false, List, ℕ, suc, ◌*◌, ◌<◌, ℤ}
use Rattle.rules.specs.Plane.{same_point}
use Rattle.rules.specs.Sheet.{point, points_of, segments_of, on_sheet}
use Rattle.rules.specs.Tree.{width, row_count}
use Rattle.visits.specs.Fine.{LengthsFine}

-- width*(2n-1), the numbers of a line's rows
abbrev pub row_numbers : List ℤ → ℕ
row_numbers ps = width * row_count (segments_of ps)

pub record Buildable (ps t : List ℤ) : Type 0 where
  pub lengths : LengthsFine ps t
  pub on : (i : ℕ) → i < points_of ps → on_sheet (point ps i) ≡ true
  pub differ : (i : ℕ) → i < segments_of ps → same_point (point ps i) (point ps (suc i)) ≡ false
