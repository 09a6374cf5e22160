-- What a walk and a build may count on: the lengths that the checks before them leave.
use Rattle.std.specs.Prelude.{◌≡◌, List, ◌*◌, ◌≤◌, ℤ, length}
use Rattle.rules.specs.Sheet.{points_of, segments_of, fewest, most}
use Rattle.rules.specs.Tree.{width, row_count}

-- refusals 1, 2, 3 and 6 do not come
pub record LengthsFine (ps t : List ℤ) : Type 0 where
  pub even : length ps ≡ 2 * points_of ps
  pub some-points : fewest ≤ points_of ps
  pub not_more : points_of ps ≤ most
  pub table-long : width * row_count (segments_of ps) ≤ length t
