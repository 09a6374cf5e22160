-- The heading of two points on the sheet is small.
use mathlib.Core.Path.{sym, subst}
use Rattle.limits.specs.Small.{Small}
use Rattle.limits.proofs.Sizes.{direction-small}
use Rattle.sides.proofs.clear_of.Goals as goal

pub clear_along-requires : goal.clear_along-requires
clear_along-requires c =
    let p = c.requires in (p.0, subst Small (sym c.direction.ensures) (direction-small p.0 p.1), p.2)
