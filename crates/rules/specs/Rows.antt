-- docs/RULES.md, section 5: when a row that is read at a visit is good, and the checks before a walk.
use Rattle.std.specs.Prelude.{Bool, not, cond, ◌&&◌, ◌||◌, List, [], ◌∷◌, ◌++◌, ℕ, ◌*◌, ◌%◌, ltb, eqb, ℤ, pos, length}
use Rattle.std.specs.Int.Signed.{le_z, lt_z}
use Rattle.rules.specs.declared.Line.{Line}
use Rattle.rules.specs.declared.Line.TheVariants.{NoLine}
use Rattle.rules.specs.declared.Point.{Point}
use Rattle.rules.specs.Plane.{eq_z, same_point}
use Rattle.rules.specs.Sheet.{point, points_of, segments_of, fewest, most, in_sheet, on_sheet, distance_fits}
use Rattle.rules.specs.declared.Row.{Row}
use Rattle.rules.specs.Tree.{width, row_count, no_split, is_leaf}
use Rattle.rules.specs.Reply.{Check}

-- ---- a row is bad exactly when one of these fails
-- its range isn't the one handed down
abbrev pub range_good : Row → ℕ → ℕ → Bool
range_good r first last = eq_z r.first (pos first) && eq_z r.last (pos last)

-- split isn't -1 for one segment, or isn't strictly between first and last for more
abbrev pub split_good : Row → ℕ → ℕ → Bool
split_good r first last =
    cond (is_leaf first last) (eq_z r.split no_split) (lt_z (pos first) r.split && lt_z r.split (pos last))

-- cmin or tmin above 0, cmax or tmax below 0
abbrev pub strip_good : Row → Bool
strip_good r = le_z r.cmin (pos 0) && le_z (pos 0) r.cmax && le_z r.tmin (pos 0) && le_z (pos 0) r.tmax

-- a box side reversed or off the sheet
abbrev pub side_good : ℤ → ℤ → Bool
side_good lo hi = le_z lo hi && in_sheet lo && in_sheet hi

abbrev pub box_good : Row → Bool
box_good r = side_good r.xmin r.xmax && side_good r.ymin r.ymax

-- the point at first or last off the sheet
abbrev pub ends_good : List ℤ → ℕ → ℕ → Bool
ends_good ps first last = on_sheet (point ps first) && on_sheet (point ps last)

-- a leaf's two points equal
abbrev pub leaf_good : List ℤ → ℕ → ℕ → Bool
leaf_good ps first last = not (is_leaf first last && same_point (point ps first) (point ps last))

unfoldable pub good : List ℤ → Row → ℕ → ℕ → Bool
good ps r first last =
    range_good r first last && split_good r first last && strip_good r && box_good r && ends_good ps first last
    && leaf_good ps first last

-- ---- the lengths: 1 odd length of a points slice, 2 fewer than 2 points, 3 more than 4,097 points
abbrev pub point_checks : Line → List ℤ → List Check
point_checks l ps =
    record { holds = eqb (length ps % 2) 1; number = 1; line = l; place = 0 }
    ∷ record { holds = ltb (points_of ps) fewest; number = 2; line = l; place = 0 }
    ∷ record { holds = ltb most (points_of ps); number = 3; line = l; place = 0 }
    ∷ []

-- 6 table shorter than 11*(2n-1)
abbrev pub table_check : Line → List ℤ → List ℤ → Check
table_check l ps t =
    record { holds = ltb (length t) (width * row_count (segments_of ps)); number = 6; line = l; place = 0 }

-- questions check 1, 2, 3, 6
abbrev pub length_checks : Line → List ℤ → List ℤ → List Check
length_checks l ps t = point_checks l ps ++ table_check l ps t ∷ []

-- 7 distance outside 0 to 2,000,000; it has no line
abbrev pub distance_check : ℤ → Check
distance_check D = record { holds = not (distance_fits D); number = 7; line = NoLine; place = 0 }

-- 8 asked point off the sheet; outside AGREE it has no line
abbrev pub asked_check : Point → Check
asked_check z = record { holds = not (on_sheet z); number = 8; line = NoLine; place = 0 }

-- 9 IN: fewer than 4 points, or first and last differ
abbrev pub ring_check : Line → List ℤ → Check
ring_check l ps = record {
  holds = ltb (points_of ps) 4 || not (same_point (point ps 0) (point ps (segments_of ps)));
  number = 9;
  line = l;
  place = 0;
}
