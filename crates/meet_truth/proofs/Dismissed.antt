-- No dismissal of MEET loses a shared point. Each dismissal is an affine function, x, y, c or t, that parts whatever
-- the one row holds from whatever the other row holds. Over a box an affine function lies between its values at two
-- opposite corners: beyond a bound at all four corners, it is beyond it over the whole box.
use mathlib.Core.Path.{◌≡◌}
use mathlib.Core.Bool.{Bool, true, false, not, cond, ◌||◌}
use mathlib.Core.List.{[], ◌∷◌}
use mathlib.Core.Logic.{⊎_elim}
use lib.Dec.{T}
use lib.IntN.{ℤ, pos, negsuc, ◌*ℤ◌}
use lib.Signed.{lt_z, ◌≤ℤ◌, ◌<ℤ◌, lt_z_yes, <ℤ-≤ℤ_trans}
use Rattle.integers.specs.Laws.{test-ind}
use Rattle.integers.specs.Poly.{con, ◌:+◌, ◌:*◌}
use Rattle.integers.specs.Check.{◌:≤◌, ◌:<◌, ◌:=◌, hyp, mul, ◌⊞◌, ◌⊠◌, prove}
use Rattle.integers.specs.Order.{no-T, ≤ℤ-or-<ℤ, ≤-<ℤ-trans}
use Rattle.rules.specs.declared.Point.{Point}
use Rattle.rules.specs.declared.Row.{Row}
use Rattle.rules.specs.Plane.{c_at, t_at}
use Rattle.rules.specs.Plain.{share}
use Rattle.rules.specs.Questions.{boxes_apart, at_corners, beyond_corners, strip_apart, apart}
use Rattle.visits.proofs.Tests.{either, four-either, four-yes}
use Rattle.visits.proofs.Affine.{Affine, x-affine, y-affine, c-affine, t-affine}
use Rattle.visits.proofs.Held.{Within, Held}
use Rattle.meet_truth.specs.Meeting.{Meeting}
use Rattle.meet_truth.proofs.Parted.{parted-below, parted-above, meeting-swaps}
use Rattle.meet_truth.proofs.Share.{share-meeting}

-- ---------------- the corners of a box

-- the right or left one, the upper or lower one
abbrev corner : Row → Bool → Bool → Point
corner q right upper = record { x = cond right q.xmax q.xmin; y = cond upper q.ymax q.ymin }

-- what holds at all four holds at each
at-corner : (q : Row) (S : Point → Bool) → T (at_corners q S) → (i j : Bool) → T (S (corner q i j))
at-corner q S t i j =
    let at : Bool → Bool → Bool = λ i j. S (corner q i j) in
    let s = four-yes (at false false) (at false true) (at true false) (at true true) t in
    test-ind (λ i. T (at i j)) i (λ _. test-ind (λ j. T (at true j)) j (λ _. s.3) (λ _. s.2))
    (λ _. test-ind (λ j. T (at false j)) j (λ _. s.1) (λ _. s.0))

-- of the ends of a range, at one α times the number is greatest, and at the other least
ends : (α lo x hi : ℤ) → Within lo hi x
    → (i : Bool) × ((α *ℤ cond (not i) hi lo) ≤ℤ (α *ℤ x)) × ((α *ℤ x) ≤ℤ (α *ℤ cond i hi lo))
ends α lo x hi h =
    ⊎_elim (λ n. (false, falls α x hi n h.1, falls α lo x n h.0))
    (λ n. (true, climbs α lo x n h.0, climbs α x hi n h.1)) (≤ℤ-or-<ℤ α (pos 0))
  where
    falls : (α u v : ℤ) → α ≤ℤ pos 0 → u ≤ℤ v → (α *ℤ v) ≤ℤ (α *ℤ u)
    falls = prove 3 (λ α u v. ((α :≤ con (pos 0)) ∷ (u :≤ v) ∷ [], α :* v :≤ α :* u, hyp 0 ⊠ hyp 1)) tt

    climbs : (α u v : ℤ) → pos 0 <ℤ α → u ≤ℤ v → (α *ℤ u) ≤ℤ (α *ℤ v)
    climbs = prove 3 (λ α u v. ((con (pos 0) :< α) ∷ (u :≤ v) ∷ [], α :* u :≤ α :* v, hyp 0 ⊠ hyp 1 ⊞ hyp 1)) tt

module _ {f : Point → ℤ} (h : Affine f) where
  rises : (u v : Point) → (h.α *ℤ u.x) ≤ℤ (h.α *ℤ v.x) → (h.β *ℤ u.y) ≤ℤ (h.β *ℤ v.y) → f u ≤ℤ f v
  rises u v hx hy =
      prove 7 (λ ux uy vx vy γ fu fv. (
        (ux :≤ vx) ∷ (uy :≤ vy) ∷ (fu := ux :+ uy :+ γ) ∷ (fv := vx :+ vy :+ γ) ∷ [],
        fu :≤ fv,
        hyp 0 ⊞ hyp 1 ⊞ hyp 2 ⊞ mul (con (negsuc 0)) 3,
      )) tt (h.α *ℤ u.x) (h.β *ℤ u.y) (h.α *ℤ v.x) (h.β *ℤ v.y) h.γ (f u) (f v) hx hy (h.is u) (h.is v)

  module _ (q : Row) {s u p : Point} (k : Held q s u p) where
    -- below a bound at all four corners, f is below it at whatever the row holds; above likewise
    below : (lo : ℤ) → T (at_corners q (λ z. lt_z (f z) lo)) → f p <ℤ lo
    below lo t =
        let i = ends h.α q.xmin p.x q.xmax k.x in
        let j = ends h.β q.ymin p.y q.ymax k.y in
        ≤-<ℤ-trans (rises p (corner q i.0 j.0) i.2 j.2)
        (lt_z_yes (at-corner q (λ z. lt_z (f z) lo) t i.0 j.0))

    above : (hi : ℤ) → T (at_corners q (λ z. lt_z hi (f z))) → hi <ℤ f p
    above hi t =
        let i = ends h.α q.xmin p.x q.xmax k.x in
        let j = ends h.β q.ymin p.y q.ymax k.y in
        <ℤ-≤ℤ_trans (lt_z_yes (at-corner q (λ z. lt_z hi (f z)) t (not i.0) (not j.0)))
        (rises (corner q (not i.0) (not j.0)) p i.1 j.1)

-- ---------------- each dismissal parts

module _ {a b c d : Point} (m : Meeting a b c d) {r q : Row} {s u s' u' : Point}
    (ha : Held r s u a) (hb : Held r s u b) (hc : Held q s' u' c) (hd : Held q s' u' d) where
  -- what is at most k from what is at least l
  parts : {f : Point → ℤ} → Affine f → (k l : ℤ) → f a ≤ℤ k → f b ≤ℤ k → l ≤ℤ f c → l ≤ℤ f d → T (lt_z k l) → ⊥
  parts h k l fa fb fc fd t = parted-above h m k fa fb (<ℤ-≤ℤ_trans (lt_z_yes t) fc) (<ℤ-≤ℤ_trans (lt_z_yes t) fd)

  -- an affine f that is beyond its bounds at all four corners is beyond them over the whole box
  beyond : {f : Point → ℤ} → Affine f → (lo hi : ℤ) → Within lo hi (f a) → Within lo hi (f b)
      → T (beyond_corners f lo hi q) → ⊥
  unfolding beyond_corners
  beyond {f} h lo hi fa fb =
      either (at_corners q (λ p. lt_z (f p) lo)) (at_corners q (λ p. lt_z hi (f p)))
      (λ t. parted-below h m lo fa.0 fb.0 (below h q hc lo t) (below h q hd lo t))
      (λ t. parted-above h m hi fa.1 fb.1 (above h q hc hi t) (above h q hd hi t))

  -- the strip of the one from the box of the other
  strip : T (strip_apart r s u q) → ⊥
  strip =
      either (beyond_corners (c_at s u) r.cmin r.cmax q) (beyond_corners (t_at s u) r.tmin r.tmax q)
      (beyond (c-affine s u) r.cmin r.cmax ha.c hb.c)
      (beyond (t-affine s u) r.tmin r.tmax ha.t hb.t)

  -- the one box from the other, left of it or below
  box-left : T (lt_z r.xmax q.xmin) → ⊥
  box-left = parts x-affine r.xmax q.xmin ha.x.1 hb.x.1 hc.x.0 hd.x.0

  box-below : T (lt_z r.ymax q.ymin) → ⊥
  box-below = parts y-affine r.ymax q.ymin ha.y.1 hb.y.1 hc.y.0 hd.y.0

-- THE DISMISSAL: a pair of rows that is dismissed holds no two segments that share a point
pub apart_none : (r q : Row) (s u s' u' a b c d : Point) → Held r s u a → Held r s u b → Held q s' u' c → Held q s' u' d
    → T (apart r s u q s' u') → share a b c d ≡ false
unfolding apart
apart_none r q s u s' u' a b c d ha hb hc hd t =
    no-T (share a b c d) λ y.
    let m = (share-meeting a b c d).0 y in
    let m' = meeting-swaps m in
    either (boxes_apart r q || strip_apart r s u q) (strip_apart q s' u' r)
    (either (boxes_apart r q) (strip_apart r s u q)
    (four-either (lt_z r.xmax q.xmin) (lt_z q.xmax r.xmin) (lt_z r.ymax q.ymin) (lt_z q.ymax r.ymin)
    (box-left m ha hb hc hd) (box-left m' hc hd ha hb) (box-below m ha hb hc hd) (box-below m' hc hd ha hb))
    (strip m ha hb hc hd))
    (strip m' hc hd ha hb) t
