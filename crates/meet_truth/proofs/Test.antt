-- The rules' exact test of two segments, read and made: its parts as facts.
use mathlib.Core.Path.{◌≡◌}
use mathlib.Core.Bool.{Bool, not, ◌&&◌}
use lib.Dec.{T}
use lib.IntN.{ℤ, pos, neg_ℤ}
use lib.Signed.{le_z, lt_z, ◌≤ℤ◌, ◌<ℤ◌, le_z_yes, lt_z_yes}
use mir.Facts.{T_not, not_T, and_yes, yes_and, or_no}
use Rattle.integers.specs.Laws.{zarith}
use Rattle.integers.specs.Poly.{:neg}
use Rattle.integers.specs.Check.{◌:=◌}
use Rattle.integers.specs.Order.{min_z, max_z, ≤ℤ-antisym}
use Rattle.rules.specs.declared.Point.{Point}
use Rattle.rules.specs.Plane.{step, c_at}
use Rattle.rules.specs.Plain.{ranges_overlap, one_side, share}
use Rattle.visits.proofs.Tests.{either, four-yes, ≤ℤ-unless}
use Rattle.visits.proofs.Points.{step_e, c_at_e, ring_of}

-- ---------------- the ranges overlap

pub record Overlap (a b c d : ℤ) : Type 0 where
  pub up : min_z a b ≤ℤ max_z c d
  pub down : min_z c d ≤ℤ max_z a b

overlap-read : (a b c d : ℤ) → T (ranges_overlap a b c d) → Overlap a b c d
overlap-read a b c d t =
    let h = and_yes (le_z (min_z a b) (max_z c d)) (le_z (min_z c d) (max_z a b)) t in
    record { up = le_z_yes h.0; down = le_z_yes h.1 }

overlap-make : (a b c d : ℤ) → Overlap a b c d → T (ranges_overlap a b c d)
overlap-make a b c d o = yes_and (le_z (min_z a b) (max_z c d)) (le_z (min_z c d) (max_z a b)) o.up.le o.down.le

-- ---------------- neither both above 0 nor both below 0

abbrev pub Neither : ℤ → ℤ → Type 0
Neither p q = (pos 0 <ℤ p → pos 0 <ℤ q → ⊥) × (p <ℤ pos 0 → q <ℤ pos 0 → ⊥)

-- both above, both below
abbrev above : ℤ → ℤ → Bool
above p q = lt_z (pos 0) p && lt_z (pos 0) q

abbrev below : ℤ → ℤ → Bool
below p q = lt_z p (pos 0) && lt_z q (pos 0)

neither-read : (p q : ℤ) → T (not (one_side p q)) → Neither p q
neither-read p q t =
    let h = or_no (above p q) (below p q) t in (
      λ k l. T_not (above p q) (yes_and (lt_z (pos 0) p) (lt_z (pos 0) q) k.lt l.lt) h.0,
      λ k l. T_not (below p q) (yes_and (lt_z p (pos 0)) (lt_z q (pos 0)) k.lt l.lt) h.1,
    )

neither-make : (p q : ℤ) → Neither p q → T (not (one_side p q))
neither-make p q n =
    not_T (one_side p q) (either (above p q) (below p q)
    (λ u. let h = and_yes (lt_z (pos 0) p) (lt_z (pos 0) q) u in n.0 (lt_z_yes h.0) (lt_z_yes h.1))
    (λ u. let h = and_yes (lt_z p (pos 0)) (lt_z q (pos 0)) u in n.1 (lt_z_yes h.0) (lt_z_yes h.1)))

pub neither-swaps : {p q : ℤ} → Neither p q → Neither q p
neither-swaps n = (λ h k. n.0 k h, λ h k. n.1 k h)

-- the lesser is not above 0, and the greater not below
pub across : {p q : ℤ} → Neither p q → q ≤ℤ p → (q ≤ℤ pos 0) × (pos 0 ≤ℤ p)
across n l = (≤ℤ-unless (λ h. n.0 (omega zarith) h), ≤ℤ-unless (λ h. n.1 h (omega zarith)))

-- two that are equal are 0
pub zeros : {p q : ℤ} → Neither p q → p ≡ q → (p ≡ pos 0) × (q ≡ pos 0)
zeros n e =
    let u = across n (omega zarith) in
    let v = across (neither-swaps n) (omega zarith) in (≤ℤ-antisym v.0 u.1, ≤ℤ-antisym u.0 v.1)

-- ---------------- the whole test

-- c of the segment a to b at p
abbrev pub c_of : Point → Point → Point → ℤ
c_of a b p = c_at a (step a b) p

-- two segments pass: their boxes overlap, and neither has both ends of the other on one side
pub record Passed (a b c d : Point) : Type 0 where
  pub xs : Overlap a.x b.x c.x d.x
  pub ys : Overlap a.y b.y c.y d.y
  pub of-ab : Neither (c_of a b c) (c_of a b d)
  pub of-cd : Neither (c_of c d a) (c_of c d b)

module _ (a b c d : Point) where
  -- the four parts of the test
  abbrev in_x : Bool
  in_x = ranges_overlap a.x b.x c.x d.x

  abbrev in_y : Bool
  in_y = ranges_overlap a.y b.y c.y d.y

  abbrev astride_ab : Bool
  astride_ab = not (one_side (c_of a b c) (c_of a b d))

  abbrev astride_cd : Bool
  astride_cd = not (one_side (c_of c d a) (c_of c d b))

  -- the test tells its parts
  pub passed-read : T (share a b c d) → Passed a b c d
  unfolding share
  passed-read t =
      let h = four-yes in_x in_y astride_ab astride_cd t in
      record {
        xs = overlap-read a.x b.x c.x d.x h.0;
        ys = overlap-read a.y b.y c.y d.y h.1;
        of-ab = neither-read (c_of a b c) (c_of a b d) h.2;
        of-cd = neither-read (c_of c d a) (c_of c d b) h.3;
      }

  -- and its parts make it
  pub passed-make : Passed a b c d → T (share a b c d)
  unfolding share
  passed-make s =
      yes_and (in_x && in_y && astride_ab) astride_cd
      (yes_and (in_x && in_y) astride_ab
      (yes_and in_x in_y (overlap-make a.x b.x c.x d.x s.xs)
      (overlap-make a.y b.y c.y d.y s.ys))
      (neither-make (c_of a b c) (c_of a b d) s.of-ab))
      (neither-make (c_of c d a) (c_of c d b) s.of-cd)

-- the other way along a segment, c is negated
pub c-reversed : (a b p : Point) → c_of b a p ≡ neg_ℤ (c_of a b p)
c-reversed = ring_of 3 0 (λ a b p. c_at_e b (step_e b a) p := :neg (c_at_e a (step_e a b) p)) tt
