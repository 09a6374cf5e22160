-- `on_segment` asks both ranges, then c.
use mathlib.Core.Path.{◌≡◌, sym, ◌∙◌}
use mathlib.Core.Bool.{true, ◌&&◌}
use lib.IntN.{pos}
use mir.Syntax.{w64}
use mir.Facts.{sfits_lit}
use Rattle.std.proofs.Common.{arith}
use Rattle.std.proofs.lemmas.Int.{to_z-of_z}
use Rattle.integers.specs.Order.{eq_z}
use Rattle.integers.specs.Machine.{eq-bits}
use Rattle.rules.specs.Plane.{step, c_at}
use Rattle.rules.specs.Plain.{range_holds, on_segment}
use Rattle.sides.proofs.on_segment.Goals as goal

pub returns-then-range_holds-2 : goal.returns-then-range_holds-2
unfolding on_segment
returns-then-range_holds-2 c =
    let s = c.args in
    let x = range_holds s.a.x s.b.x s.z.x in
    let y = range_holds s.a.y s.b.y s.z.y in
    let both : c.if-range_holds.value ≡ (x && y) = grind (arith, to_z-of_z) in
    let on-both : (x && y) ≡ true = sym both ∙ c.if-range_holds-2.true in
    let straight = eq_z (c_at s.a (step s.a s.b) s.z) (pos 0) in
    eq-bits w64 {x = c.c_at.result} {y = pos 0} (record { sfits = c.c_at.type_inv }) (sfits_lit {z = pos 0} tt)
    ∙ (λ d. eq_z (c.c_at.ensures d) (pos 0))
    ∙ (λ d. eq_z (c_at s.a (c.step.ensures d) s.z) (pos 0))
    ∙ sym (λ d. on-both d && straight)

pub returns-else-range_holds-2 : goal.returns-else-range_holds-2
unfolding on_segment
returns-else-range_holds-2 c = grind (arith, to_z-of_z)
