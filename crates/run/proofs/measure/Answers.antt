-- `measure` reads both ends, and then the inner points one by one.
use Rattle.std.proofs.Common.{arith, ◌≡◌, ◌∙◌, sym, ap, subst, ◌<◌, ℕ, ◌+◌, ◌-◌, List}
use Prim.Native.Nat.{suc}
use lib.IntN.{ℤ}
use Rattle.rules.specs.Plane.{direction, c_at, t_at}
use Rattle.rules.specs.declared.Point.{Point}
use Rattle.rules.specs.Sheet.{point, segments_of}
use Rattle.limits.specs.Small.{OnSheet, Small}
use Rattle.limits.proofs.Sizes.{direction-small}
use Rattle.run.specs.declared.Measured.{Measured}
use Rattle.run.specs.Run.{AllOnSheet, ends_of, measured_with}
use Rattle.run.proofs.Points.{read-on}
use Rattle.run.proofs.SoFar.{so_far, top_below, so-far-ends, so_far_more, so-far-all}
use Rattle.run.proofs.measure.Goals as goal

-- the ends of a run are on the sheet, and its direction is small
module _ (q : List ℤ) (on : AllOnSheet q) (more : 0 < segments_of q) {s e : Point} (at_start : s ≡ point q 0)
    (at_end : e ≡ point q (segments_of q)) where
  ends_on : OnSheet s × OnSheet e
  ends_on = (read-on q on 0 (omega arith) at_start, read-on q on (segments_of q) (omega arith) at_end)

  small : {u : Point} → u ≡ direction s e → Small u
  small h = subst Small (sym h) (direction-small ends_on.0 ends_on.1)

pub direction-u-requires : goal.direction-u-requires
direction-u-requires c = ends_on c.args.run.now c.requires.0 c.requires.1 c.point_at-s.ensures c.point_at-e.ensures

pub ends-m-requires : goal.ends-m-requires
ends-m-requires c = ends_on c.args.run.now c.requires.0 c.requires.1 c.point_at-s.ensures c.point_at-e.ensures

pub loop-i-init : goal.loop-i-init
loop-i-init c =
    let q = c.args.run.now in
    let s = c.point_at-s.ensures in
    let e = c.point_at-e.ensures in
    c.ends-m.ensures ∙ (λ d. ends_of (s d) (e d)) ∙ sym (so-far-ends q (segments_of q))

pub with-m-requires : goal.with-m-requires
with-m-requires c =
    let q = c.args.run.now in
    let i = c.loop-i.i in
    let top = ap (λ (m : Measured). m.top.split) c.loop-i.invariant in (
      (ends_on q c.requires.0 c.requires.1 c.point_at-s.ensures c.point_at-e.ensures).0,
      small q c.requires.0 c.requires.1 c.point_at-s.ensures c.point_at-e.ensures c.direction-u.ensures,
      read-on q c.requires.0 i (omega arith) c.point_at.ensures,
      omega (arith, top, top_below q (segments_of q) (i - 1)),
      omega arith,
      omega (arith, c.requires.2),
    )

-- what is measured with the next point is what is measured up to it
next : (q : List ℤ) (n k i : ℕ) {m r : Measured} {s e u p : Point} → i ≡ suc k → m ≡ so_far q n k → s ≡ point q 0
    → e ≡ point q n → u ≡ direction s e → p ≡ point q i → r ≡ measured_with m (c_at s u p) (t_at s u p) p n i
    → r ≡ so_far q n (suc k)
next q n k i j m s e u p w = rw (m, u, s, e, p, j, ← so_far_more q n k) at w

pub loop-i-preserved : goal.loop-i-preserved
loop-i-preserved c =
    let q = c.args.run.now in
    let i = c.loop-i.i in
    let turn : suc (i - 1) ≡ i + 1 - 1 = omega arith in
    next q (segments_of q) (i - 1) i (omega arith) c.loop-i.invariant c.point_at-s.ensures c.point_at-e.ensures
    c.direction-u.ensures c.point_at.ensures c.with-m.ensures
    ∙ ap (so_far q (segments_of q)) turn

pub returns : goal.returns
returns c = c.loop-i.invariant ∙ so-far-all c.args.run.now (c.loop-i.i - 1) (omega arith)
