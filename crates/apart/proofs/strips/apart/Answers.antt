-- `apart` asks the boxes, then each strip about the other box.
use mathlib.Core.Path.{◌≡◌, sym, subst}
use Rattle.rules.specs.declared.Point.{Point}
use Rattle.rules.specs.declared.Row.{Row}
use Rattle.rules.specs.Plane.{direction}
use Rattle.limits.specs.Small.{Small}
use Rattle.limits.proofs.Sizes.{direction-small}
use Rattle.std.proofs.Common.{arith}
use Rattle.rules.specs.Questions.{apart}
use Rattle.apart.specs.Placed.{Placed}
use Rattle.apart.proofs.strips.apart.Goals as goal

-- a heading that was found is small
heading-small : {r : Row} {start end u : Point} → Placed r start end → u ≡ direction start end → Small u
heading-small p e = subst Small (sym e) (direction-small p.start-on p.end_on)

pub strip_apart-requires : goal.strip_apart-requires
strip_apart-requires c =
    let p = c.requires in (p.0.start-on, heading-small p.0 c.direction.ensures, p.1.box-on)

pub strip_apart-requires-else-strip_apart : goal.strip_apart-requires-else-strip_apart
strip_apart-requires-else-strip_apart c =
    let p = c.requires in (p.1.start-on, heading-small p.1 c.direction-else-strip_apart.ensures, p.0.box-on)

pub returns-then-strip_apart : goal.returns-then-strip_apart
unfolding apart
returns-then-strip_apart c = grind arith

pub returns-else-strip_apart : goal.returns-else-strip_apart
unfolding apart
returns-else-strip_apart c = grind arith
