-- `within` asks the three cases in the order of the definition, each by `farther`.
use mathlib.Core.Path.{◌≡◌, sym, ◌∙◌, ap}
use mathlib.Core.Bool.{not}
use Prim.Native.Nat.{◌+◌, ◌*◌}
use native.Mathlib.Omega.{arith}
use lib.Dec.{ltb}
use lib.IntN.{ℤ, pos, nat_abs, ◌+ℤ◌, ◌*ℤ◌}
use lib.Signed.{le_z, lt_z}
use mir.Syntax.{w64}
use mir.Val.{SFits, to_z, of_z}
use mir.Facts.{to_z-of_z}
use borrow.Author.Rules.{rules}
use Rattle.integers.specs.Range.{abs-at, abs-weaken}
use Rattle.rules.specs.declared.Point.{Point}
use Rattle.rules.specs.Plane.{step, size², c_at, t_at}
use Rattle.limits.proofs.Sizes.{step_small, c-wide}
use Rattle.large.proofs.Squares.{of-magnitudes}
use Rattle.line.proofs.Smalls.{stepped}
use Rattle.line.proofs.Stored.{stored-abs}
use Rattle.reach.proofs.Sizes.{reach-roomy, magnitude-roomy, size_above, size-roomy}
use Rattle.reach.proofs.Segment.{within-start, within_end, within-along}
use Rattle.reach.proofs.within.Goals as goal

-- t, |u|^2 and c along the step u, as they are read back: the step that was taken is u
t-read : (s z u : Point) {r : ℤ} {v : Point} → SFits w64 r → r ≡ t_at s v z → v ≡ u → to_z w64 (of_z w64 r) ≡ t_at s u z
t-read s z u f e is = to_z-of_z f ∙ e ∙ ap (λ (v : Point). t_at s v z) is

size-read : (u : Point) {r : ℤ} {v : Point} → SFits w64 r → r ≡ size² v → v ≡ u → to_z w64 (of_z w64 r) ≡ size² u
size-read u f e is = to_z-of_z f ∙ e ∙ ap (λ (v : Point). size² v) is

c-read : (s z u : Point) {r : ℤ} {v : Point} → SFits w64 r → r ≡ c_at s v z → v ≡ u → to_z w64 (of_z w64 r) ≡ c_at s u z
c-read s z u f e is = to_z-of_z f ∙ e ∙ ap (λ (v : Point). c_at s v z) is

-- ---------------- by the start, and by the end
pub returns-then-t-le0 : goal.returns-then-t-le0
returns-then-t-le0 c D e =
    let s = c.args in
    let t = t-read s.a s.z (step s.a s.b) (search rules) c.t_at-t.ensures c.step-u.ensures in
    let early = sym (λ i. le_z (t i) (pos 0)) ∙ c.if-t-le0.true in
    ap not (c.apart.ensures ∙ (λ i. lt_z (e i) (size² (step s.a s.z)))) ∙ within-start s.z s.a s.b D early

pub returns-then-v-t : goal.returns-then-v-t
returns-then-v-t c D e =
    let s = c.args in
    let t = t-read s.a s.z (step s.a s.b) (search rules) c.t_at-t.ensures c.step-u.ensures in
    let v = size-read (step s.a s.b) (search rules) c.size2-v.ensures c.step-u.ensures in
    let past = sym (λ i. le_z (t i) (pos 0)) ∙ c.if-t-le0.false in
    let far = sym (λ i. le_z (v i) (t i)) ∙ c.if-v-t.true in
    ap not (c.apart-then-v-t.ensures ∙ (λ i. lt_z (e i) (size² (step s.b s.z))))
    ∙ within_end s.z s.a s.b D past far

-- ---------------- along the segment: c's magnitude, as it is compared
pub magnitude-requires : goal.magnitude-requires
magnitude-requires c =
    let p = c.requires in
    let small = stepped p.1 p.2 c.step-u.ensures in
    stored-abs (abs-weaken (abs-at (sym c.c_at.ensures) (c-wide p.1 small p.0)) tt) tt

pub farther-requires : goal.farther-requires
farther-requires c =
    let s = c.args in
    let p = c.requires in
    let beside = c.magnitude.ensures
    ∙ ap nat_abs (c-read s.a s.z (step s.a s.b) (search rules) c.c_at.ensures c.step-u.ensures) in (
      magnitude-roomy beside (c-wide p.1 (step_small p.1 p.2) p.0) tt,
      omega arith,
      reach-roomy p.3,
      size-roomy (stepped p.1 p.2 c.step-u.ensures) c.size2-v.ensures,
    )

pub returns : goal.returns
returns c D e =
    let s = c.args in
    let p = c.requires in
    let u = step s.a s.b in
    let t = t-read s.a s.z u (search rules) c.t_at-t.ensures c.step-u.ensures in
    let v = size-read u (search rules) c.size2-v.ensures c.step-u.ensures in
    let beside = c.magnitude.ensures ∙ ap nat_abs (c-read s.a s.z u (search rules) c.c_at.ensures c.step-u.ensures) in
    let beside-z = c_at s.a u s.z in
    let past = sym (λ i. le_z (t i) (pos 0)) ∙ c.if-t-le0.false in
    let near = sym (λ i. le_z (v i) (t i)) ∙ c.if-v-t.false in
    let far = c.farther.ensures
    ∙ (λ i. ltb (s.reach * nat_abs (to_z w64 (of_z w64 c.size2-v.result))) (beside i * beside i + 0))
    ∙ of-magnitudes beside-z (pos 0) s.reach (size_above (stepped p.1 p.2 c.step-u.ensures) c.size2-v.ensures)
    ∙ (λ i. lt_z (e i *ℤ v i) (beside-z *ℤ beside-z +ℤ pos 0)) in
    ap not far ∙ within-along s.z s.a s.b D past near
