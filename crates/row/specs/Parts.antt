-- The row rules of refusal 10 in the parts in which the code asks for them.
use Rattle.std.specs.Prelude.{Bool, not, ◌&&◌, ℕ, pos}
use Rattle.std.specs.Int.Signed.{lt_z}
use Rattle.rules.specs.declared.Point.{Point}
use Rattle.rules.specs.declared.Row.{Row}
use Rattle.rules.specs.Plane.{eq_z, same_point}
use Rattle.rules.specs.Tree.{no_split}
use Rattle.rules.specs.Rows.{range_good, strip_good, box_good}

-- those that ask for no point: the range handed down, a strip that holds the start, a box on the sheet
abbrev pub frame_good : Row → ℕ → ℕ → Bool
frame_good r first last = range_good r first last && (strip_good r && box_good r)

-- a leaf from a to b has no split, and its two points differ
abbrev pub leaf_fits : Row → Point → Point → Bool
leaf_fits r a b = eq_z r.split no_split && not (same_point a b)

-- a node of more segments splits strictly inside its range
abbrev pub split_fits : Row → ℕ → ℕ → Bool
split_fits r first last = lt_z (pos first) r.split && lt_z r.split (pos last)
