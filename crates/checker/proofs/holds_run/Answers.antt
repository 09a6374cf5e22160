-- `holds_run` asks both ends, and then the points between, one by one.
use Rattle.std.proofs.Common.{arith, ℕ, ◌≡◌, ◌∙◌, sym, subst, List}
use mathlib.Core.Bool.{Bool, ◌&&◌}
use native.Mathlib.Decide.{ℕ_discrete}
use lib.Dec.{T}
use lib.IntN.{ℤ}
use lib.Signed.{le_z}
use Rattle.integers.specs.Order.{T_true, yes-T}
use Rattle.rules.specs.declared.Point.{Point}
use Rattle.rules.specs.declared.Row.{Row}
use Rattle.rules.specs.Plane.{step, direction, size², c_at, t_at}
use Rattle.rules.specs.Sheet.{point}
use Rattle.rules.specs.Build.{strip_holds, box_holds, holds_point}
use Rattle.limits.specs.Small.{OnSheet, Small}
use Rattle.limits.proofs.Sizes.{direction-small}
use Rattle.run.proofs.Points.{read-on}
use Rattle.checker.proofs.Run.{held, ends, not-held, ends-not-held, all_held}
use Rattle.checker.proofs.holds_run.Goals.{After-point_at-e, After-holds_ends, After-holds_point}
use Rattle.checker.proofs.holds_run.Goals as goal

-- both ends are read
ends_on : (c : After-point_at-e) → OnSheet c.point_at-s.result × OnSheet c.point_at-e.result
ends_on c =
    let a = c.args in (
      read-on a.points.now c.requires.2 a.first (omega arith) c.point_at-s.ensures,
      read-on a.points.now c.requires.2 a.last (omega arith) c.point_at-e.ensures,
    )

-- what is said of the ends
ends-told : (c : After-holds_ends) → c.holds_ends.result ≡ ends c.args.points.now c.args.r c.args.first c.args.last
ends-told c =
    let r = c.args.r in
    let s = c.point_at-s.ensures in
    let e = c.point_at-e.ensures in
    c.holds_ends.ensures ∙ (λ d. le_z (size² (step (s d) (e d))) r.tmax && box_holds r (s d) && box_holds r (e d))

-- and of a point between
point-told : (ps : List ℤ) (r : Row) (first last j : ℕ) {h : Bool} {s e u p : Point} → s ≡ point ps first
    → e ≡ point ps last → u ≡ direction s e → p ≡ point ps j
    → h ≡ strip_holds r (c_at s u p) (t_at s u p) && box_holds r p → h ≡ held ps r first last j
unfolding holds_point
point-told ps r first last j s e u p w = rw (u, s, e, p) at w

next-told : (c : After-holds_point)
    → c.holds_point.result ≡ held c.args.points.now c.args.r c.args.first c.args.last c.loop-i.i
next-told c =
    let a = c.args in
    let s = c.point_at-s.ensures in
    let e = c.point_at-e.ensures in
    point-told a.points.now a.r a.first a.last c.loop-i.i s e c.direction-u.ensures c.point_at.ensures
    c.holds_point.ensures

pub holds_ends-requires : goal.holds_ends-requires
holds_ends-requires c = ends_on (goal.at.holds_ends-requires c).After-point_at-e

pub returns-then-not-holds_ends : goal.returns-then-not-holds_ends
returns-then-not-holds_ends c =
    let a = c.args in
    let told = ends-told (goal.at.returns-then-not-holds_ends c).After-holds_ends in
    sym (ends-not-held a.points.now a.r a.first a.last c.requires.3 (omega arith) (sym told ∙ c.if-not-holds_ends.true))

pub direction-u-requires : goal.direction-u-requires
direction-u-requires c = ends_on (goal.at.direction-u-requires c).After-point_at-e

pub holds_point-requires : goal.holds_point-requires
holds_point-requires c =
    let on = ends_on (goal.at.holds_point-requires c).After-point_at-e in (
      on.0,
      subst Small (sym c.direction-u.ensures) (direction-small on.0 on.1),
      read-on c.args.points.now c.requires.2 c.loop-i.i (omega arith) c.point_at.ensures,
    )

pub returns-then-not-holds_point : goal.returns-then-not-holds_point
returns-then-not-holds_point c =
    let a = c.args in
    let told = next-told (goal.at.returns-then-not-holds_point c).After-holds_point in
    sym (not-held a.points.now a.r a.first a.last c.loop-i.i (omega arith) (omega arith)
    (sym told ∙ c.if-not-holds_point.true))

pub loop-i-preserved : goal.loop-i-preserved
loop-i-preserved c j l m =
    let a = c.args in
    let told = next-told (goal.at.loop-i-preserved c).After-holds_point in
    elim (ℕ_discrete j c.loop-i.i) [
      | yes q ↦ subst (λ (k : ℕ). T (held a.points.now a.r a.first a.last k)) (sym q)
          (T_true (sym told ∙ c.if-not-holds_point.false))
      | no q ↦ c.loop-i.invariant j l (omega arith)
    ]

pub returns : goal.returns
returns c =
    let a = c.args in
    let told = ends-told (goal.at.returns c).After-holds_ends in
    sym (yes-T _ (all_held a.points.now a.r a.first a.last c.requires.3 (T_true (sym told ∙ c.if-not-holds_ends.false))
    (λ j l m. c.loop-i.invariant j l (omega arith))))
