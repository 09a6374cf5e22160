-- The numbers of two steps, as the machine reads them; and what is called for as a step on the sheet is small.
use mathlib.Core.Path.{◌≡◌, sym, subst}
use mathlib.Core.List.{[], ◌∷◌}
use Prim.Native.Nat.{◌*◌}
use mir.Syntax.{w64}
use Rattle.integers.specs.Machine.{In, at_width, ins-abs}
use Rattle.integers.specs.Range.{Each, nil, ◌&◌}
use Rattle.rules.specs.declared.Point.{Point}
use Rattle.rules.specs.Plane.{step}
use Rattle.rules.specs.Sheet.{limit}
use Rattle.limits.specs.Small.{OnSheet, Small}
use Rattle.limits.proofs.Sizes.{step_small}

pub smalls : {u v : Point} → Small u → Small v
    → Each In (at_width w64 (2 * limit ∷ 2 * limit ∷ 2 * limit ∷ 2 * limit ∷ [])) (u.x ∷ u.y ∷ v.x ∷ v.y ∷ [])
smalls h k = ins-abs w64 (h.x-in & h.y-in & k.x-in & k.y-in & nil) tt

pub stepped : {s p v : Point} → OnSheet s → OnSheet p → v ≡ step s p → Small v
stepped h k e = subst Small (sym e) (step_small h k)
