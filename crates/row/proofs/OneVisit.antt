-- What a visit of a node may count on: the points of a good leaf differ, and the ends of a node are on the sheet.
use mathlib.Core.Path.{◌≡◌, sym, subst}
use mathlib.Core.Bool.{true, false, not}
use mathlib.Core.List.{List}
use lib.Dec.{T_not}
use lib.IntN.{ℤ}
use mir.Facts.{and_yes}
use Rattle.integers.specs.Order.{T_true, no-T}
use Rattle.rules.specs.declared.Node.{Node}
use Rattle.rules.specs.declared.Point.{Point}
use Rattle.rules.specs.declared.Row.{Row}
use Rattle.rules.specs.Plane.{eq_z, same_point}
use Rattle.rules.specs.Tree.{no_split}
use Rattle.rules.specs.Questions.{start_of, end_of}
use Rattle.limits.specs.Small.{OnSheet}
use Rattle.limits.proofs.OnSheets.{on-sheet}
use Rattle.row.specs.Parts.{leaf_fits}
use Rattle.row.specs.Stands.{EndsOn}

-- ---------------- what a rule tells that holds
-- the points of a leaf differ
pub points-differ : (r : Row) (a b : Point) → leaf_fits r a b ≡ true → same_point a b ≡ false
points-differ r a b e =
    let same = same_point a b in no-T same (T_not same (and_yes (eq_z r.split no_split) (not same) (T_true e)).1)

-- ---------------- the points that were read of a node that begins and ends on the sheet
pub points_on : {ps : List ℤ} {n : Node} {a b : Point} → EndsOn ps n → a ≡ start_of ps n → b ≡ end_of ps n
    → OnSheet a × OnSheet b
points_on on from to =
    (subst OnSheet (sym from) (on-sheet _ on.start-on), subst OnSheet (sym to) (on-sheet _ on.end_on))
