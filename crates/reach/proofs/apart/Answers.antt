-- `apart` is `farther` with |u|^2 = 1.
use mathlib.Core.Path.{◌∙◌, ap}
use Prim.Native.Nat.{◌+◌, ◌*◌}
use lib.Dec.{ltb}
use lib.IntN.{ℤ, pos, nat_abs}
use lib.Signed.{lt_z}
use Rattle.integers.specs.Laws.{zarith, one-r}
use Rattle.rules.specs.declared.Point.{Point}
use Rattle.rules.specs.Plane.{step, size²}
use Rattle.large.proofs.Squares.{of-magnitudes}
use Rattle.line.proofs.Smalls.{stepped}
use Rattle.line.proofs.Stored.{stored}
use Rattle.reach.proofs.apart.Goals as goal

pub returns : goal.returns
returns c =
    let small = stepped c.requires.0 c.requires.1 c.step-u.ensures in
    let u = step c.args.a c.args.b in
    let x = c.magnitude.ensures
    ∙ ap nat_abs (stored small.x-in tt ∙ ap (λ (p : Point). p.x) c.step-u.ensures) in
    let y = c.magnitude-2.ensures
    ∙ ap nat_abs (stored small.y-in tt ∙ ap (λ (p : Point). p.y) c.step-u.ensures) in
    c.farther.ensures
    ∙ (λ i. ltb (c.args.reach * 1) (x i * x i + y i * y i))
    ∙ of-magnitudes u.x u.y c.args.reach {v = pos 1} (omega zarith)
    ∙ ap (λ (z : ℤ). lt_z z (size² u)) (one-r (pos c.args.reach))
