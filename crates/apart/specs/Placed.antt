-- What the functions of `apart` may count on: sizes for which the machine's arithmetic is exact.
use Rattle.integers.specs.Range.{Abs≤}
use Rattle.rules.specs.declared.Point.{Point}
use Rattle.rules.specs.declared.Row.{Row}
use Rattle.rules.specs.Sheet.{limit}
use Rattle.limits.specs.Small.{OnSheet}

-- the box of a row is on the sheet
pub record BoxOnSheet (r : Row) : Type 0 where
  pub xmin-in : Abs≤ limit r.xmin
  pub xmax-in : Abs≤ limit r.xmax
  pub ymin-in : Abs≤ limit r.ymin
  pub ymax-in : Abs≤ limit r.ymax

-- a node's row, and the points that it begins and ends with
pub record Placed (r : Row) (start end : Point) : Type 0 where
  pub start-on : OnSheet start
  pub end_on : OnSheet end
  pub box-on : BoxOnSheet r
