-- The exact test of two segments is right: it says yes exactly where one rational point lies on both. From a shared
-- point each part of the test follows, as nothing affine parts the segments. From the test, either the lines cross,
-- and the point is weighed by c of the ends; or all four ends stand on one line, and an end of one segment lies on
-- the other.
use mathlib.Core.Path.{◌≡◌, sym, ◌∙◌, ap}
use mathlib.Core.List.{List, [], ◌∷◌}
use mathlib.Core.Logic.{◌⊎◌, inl, inr, ⊎_elim, ◌↔◌}
use lib.Dec.{T}
use lib.IntN.{ℤ, pos, negsuc, neg_ℤ, ◌-ℤ◌, ◌*ℤ◌}
use lib.Signed.{lt_z, ◌≤ℤ◌, ◌<ℤ◌, ≤ℤ_refl, clash_ℤ}
use Rattle.integers.specs.Poly.{Expr, con, ◌:-◌, :neg}
use Rattle.integers.specs.Check.{Stmt, ◌:<◌, ◌:=◌, hyp, mul, ◌⊞◌, prove}
use Rattle.integers.specs.Laws.{cond_ind}
use Rattle.integers.specs.Order.{≤ℤ-or-<ℤ, ≤ℤ-trans, ≤-<ℤ-trans, ≤ℤ-antisym, <ℤ-weaken, ≡→≤ℤ}
use Rattle.integers.specs.Order.{min_z, max_z, min-l, min-r, min-greatest, max-l, max-r, max_least}
use Rattle.rules.specs.declared.Point.{Point}
use Rattle.rules.specs.Plane.{step}
use Rattle.rules.specs.Plain.{share}
use Rattle.visits.specs.Weights.{total, mixed}
use Rattle.visits.proofs.Tests.{≤ℤ-unless}
use Rattle.visits.proofs.Terms.{c-start}
use Rattle.visits.proofs.Points.{PointE, step_e, c_at_e, ring_of, prove-of, one-point}
use Rattle.visits.proofs.Weights.{at-start, reversed, between}
use Rattle.visits.proofs.Affine.{Affine, x-affine, y-affine, c-affine, affine_e}
use Rattle.meet_truth.specs.Meeting.{Meeting}
use Rattle.meet_truth.proofs.Parted.{same_e, parted-below, parted-above}
use Rattle.meet_truth.proofs.Parted.{meeting-swaps, meeting-reversed}
use Rattle.meet_truth.proofs.Test.{Overlap, Neither, neither-swaps, across, zeros, c_of, c-reversed}
use Rattle.meet_truth.proofs.Test.{Passed, passed-read, passed-make}

-- c of the segment a to b at p, as a term
abbrev c_of_e : PointE → PointE → PointE → Expr
c_of_e a b p = c_at_e a (step_e a b) p

-- ---------------- a shared point passes the test

module _ {a b c d : Point} (m : Meeting a b c d) where
  -- what an affine f counts of the one reaches to what it counts of the other
  reached : {f : Point → ℤ} → Affine f → min_z (f a) (f b) ≤ℤ max_z (f c) (f d)
  reached {f} h =
      ≤ℤ-unless (λ l. parted-below h m (min_z (f a) (f b)) (min-l (f a) (f b)) (min-r (f a) (f b))
      (≤-<ℤ-trans (max-l (f c) (f d)) l) (≤-<ℤ-trans (max-r (f c) (f d)) l))

  -- c of a to b is 0 at a and at b, so it parts nothing
  neither : Neither (c_of a b c) (c_of a b d)
  neither =
      let u = step a b in
      let c-end = ring_of 2 0 (λ a b. c_of_e a b b := con (pos 0)) tt a b in (
        parted-above (c-affine a u) m (pos 0) (≡→≤ℤ (c-start a u)) (≡→≤ℤ c-end),
        parted-below (c-affine a u) m (pos 0) (≡→≤ℤ (sym (c-start a u))) (≡→≤ℤ (sym c-end)),
      )

-- whoever meets passes the test
meeting-passes : {a b c d : Point} → Meeting a b c d → Passed a b c d
meeting-passes m = let m' = meeting-swaps m in record {
  xs = record { up = reached m x-affine; down = reached m' x-affine };
  ys = record { up = reached m y-affine; down = reached m' y-affine };
  of-ab = neither m;
  of-cd = neither m';
}

-- ---------------- the lines cross

-- c(d) − c(c) of a to b is c(a) − c(b) of c to d
same-fall : (a b c d : Point) → c_of a b d -ℤ c_of a b c ≡ c_of c d a -ℤ c_of c d b
same-fall = ring_of 4 0 (λ a b c d. c_of_e a b d :- c_of_e a b c := c_of_e c d a :- c_of_e c d b) tt

-- so the one is below 0, above 0 or 0 where the other is
falls : (u v w z : ℤ) → u -ℤ v ≡ w -ℤ z → u <ℤ v → w <ℤ z
falls = prove 4 (λ u v w z. ((u :- v := w :- z) ∷ (u :< v) ∷ [], w :< z, mul (con (negsuc 0)) 0 ⊞ hyp 1)) tt

climbs : (u v w z : ℤ) → u -ℤ v ≡ w -ℤ z → v <ℤ u → z <ℤ w
climbs = prove 4 (λ u v w z. ((u :- v := w :- z) ∷ (v :< u) ∷ [], z :< w, hyp 0 ⊞ hyp 1)) tt

stays : (u v w z : ℤ) → u -ℤ v ≡ w -ℤ z → v ≡ u → w ≡ z
stays =
    prove 4 (λ u v w z. (
      (u :- v := w :- z) ∷ (v := u) ∷ [],
      w := z,
      mul (con (negsuc 0)) 0 ⊞ mul (con (negsuc 0)) 1,
    )) tt

-- where c falls from c to d, each end is weighed by c at the other end of its segment
crossed : (a b c d : Point) → Neither (c_of a b c) (c_of a b d) → Neither (c_of c d a) (c_of c d b)
    → c_of a b d <ℤ c_of a b c → Meeting a b c d
crossed a b c d ab cd l =
    let rises = falls (c_of a b d) (c_of a b c) (c_of c d a) (c_of c d b) (same-fall a b c d) l in
    let of-ab = across ab (<ℤ-weaken l) in
    let of-cd = across (neither-swaps cd) (<ℤ-weaken rises) in
    record {
      on-ab = between (c_of c d a) (pos 0) (c_of c d b) of-cd.0 of-cd.1 rises;
      on-cd = reversed (between (c_of a b d) (pos 0) (c_of a b c) of-ab.0 of-ab.1 l);
      same =
          one-point (ring_of 4 0 (λ a b c d. cross_e a b c d a.x b.x c.x d.x) tt a b c d)
          (ring_of 4 0 (λ a b c d. cross_e a b c d a.y b.y c.y d.y) tt a b c d);
    }
  where
    cross_e : PointE → PointE → PointE → PointE → Expr → Expr → Expr → Expr → Stmt
    cross_e a b c d =
        same_e (c_of_e c d b :- con (pos 0)) (con (pos 0) :- c_of_e c d a)
        (con (pos 0) :- c_of_e a b d) (c_of_e a b c :- con (pos 0))

-- ---------------- all on one line

abbrev Order : ℤ → ℤ → Type 0
Order a b = (a <ℤ b) ⊎ ((b <ℤ a) ⊎ (a ≡ b))

order : (a b : ℤ) → Order a b
order a b =
    ⊎_elim (λ l. ⊎_elim (λ m. inr (inr (≤ℤ-antisym l m))) inl (≤ℤ-or-<ℤ b a)) (λ l. inr (inl l)) (≤ℤ-or-<ℤ a b)

-- each end stands on the line of the other segment
record Level (a b c d : Point) : Type 0 where
  a-on : c_of c d a ≡ pos 0
  b-on : c_of c d b ≡ pos 0
  c-on : c_of a b c ≡ pos 0
  d-on : c_of a b d ≡ pos 0

-- of one number, the lesser and the greater are it
one_number : {u v : ℤ} → u ≡ v → (u ≤ℤ min_z u v) × (max_z u v ≤ℤ u)
one_number {u} e = (min-greatest (≤ℤ_refl u) (≡→≤ℤ e), max_least (≤ℤ_refl u) (≡→≤ℤ (sym e)))

module _ {f : Point → ℤ} (h : Affine f) where
  -- an end of the one on the line of the other, and between its ends as f counts
  end_on : (a b c d : Point) → c_of c d a ≡ pos 0 → f c ≤ℤ f a → f a ≤ℤ f d → f c <ℤ f d → Meeting a b c d
  end_on a b c d e l m n = record {
    on-ab = at-start;
    on-cd = between (f c) (f a) (f d) l m n;
    same =
        one-point
        (prove-of 4 6 (λ a b c d α β γ fa fc fd. (
          on_e a c d α β γ fa fc fd,
          same_e (con (pos 1)) (con (pos 0)) (fd :- fa) (fa :- fc) a.x b.x c.x d.x,
          mul (:neg β) 0 ⊞ mul (c.x :- d.x) 1 ⊞ mul (d.x :- a.x) 2 ⊞ mul (a.x :- c.x) 3,
        )) tt a b c d h.α h.β h.γ (f a) (f c) (f d) e (h.is a) (h.is c) (h.is d))
        (prove-of 4 6 (λ a b c d α β γ fa fc fd. (
          on_e a c d α β γ fa fc fd,
          same_e (con (pos 1)) (con (pos 0)) (fd :- fa) (fa :- fc) a.y b.y c.y d.y,
          mul α 0 ⊞ mul (c.y :- d.y) 1 ⊞ mul (d.y :- a.y) 2 ⊞ mul (a.y :- c.y) 3,
        )) tt a b c d h.α h.β h.γ (f a) (f c) (f d) e (h.is a) (h.is c) (h.is d));
  }
    where
      on_e : PointE → PointE → PointE → Expr → Expr → Expr → Expr → Expr → Expr → List Stmt
      on_e a c d α β γ fa fc fd =
          (c_of_e c d a := con (pos 0)) ∷ affine_e α β γ a fa ∷ affine_e α β γ c fc ∷ affine_e α β γ d fd ∷ []

  -- either way round, or f does not move along the other
  onto : (a b c d : Point) → c_of c d a ≡ pos 0 → min_z (f c) (f d) ≤ℤ f a → f a ≤ℤ max_z (f c) (f d)
      → Meeting a b c d ⊎ (f c ≡ f d)
  onto a b c d e p q =
      ⊎_elim (λ l. let k = <ℤ-weaken l in inl (end_on a b c d e
      (≤ℤ-trans (min-greatest (≤ℤ_refl (f c)) k) p) (≤ℤ-trans q (max_least k (≤ℤ_refl (f d)))) l))
      (⊎_elim (λ l. let k = <ℤ-weaken l in inl (meeting-swaps (meeting-reversed (meeting-swaps (end_on a b d c
      (c-reversed c d a ∙ ap neg_ℤ e) (≤ℤ-trans (min-greatest k (≤ℤ_refl (f d))) p)
      (≤ℤ-trans q (max_least (≤ℤ_refl (f c)) k)) l))))) inr) (order (f c) (f d))

  -- whichever end of a to b is the lower
  lower-on : (a b c d : Point) → c_of c d a ≡ pos 0 → c_of c d b ≡ pos 0 → min_z (f c) (f d) ≤ℤ min_z (f a) (f b)
      → min_z (f a) (f b) ≤ℤ max_z (f c) (f d) → Meeting a b c d ⊎ (f c ≡ f d)
  lower-on a b c d ea eb =
      cond_ind (lt_z (f a) (f b)) (f a) (f b)
      (λ v. min_z (f c) (f d) ≤ℤ v → v ≤ℤ max_z (f c) (f d) → Meeting a b c d ⊎ (f c ≡ f d))
      (λ _. onto a b c d ea) (λ _ p q. ⊎_elim (λ m. inl (meeting-reversed m)) inr (onto b a c d eb p q))

  -- the greater of the lower ends lies on the other segment, or f has one value at the starts of both
  moves : (a b c d : Point) → Level a b c d → Overlap (f a) (f b) (f c) (f d) → Meeting a b c d ⊎ (f a ≡ f c)
  moves a b c d l o =
      ⊎_elim (λ k. ⊎_elim inl (λ cd. c-alone (one_number cd) k) (lower-on a b c d l.a-on l.b-on k o.up))
      (λ k. ⊎_elim (λ m. inl (meeting-swaps m)) (λ ab.
      let u = one_number ab in absurd (clash_ℤ k (≤ℤ-trans o.down (≤ℤ-trans u.1 u.0))))
      (lower-on c d a b l.c-on l.d-on (<ℤ-weaken k) o.down)) (≤ℤ-or-<ℤ (min_z (f c) (f d)) (min_z (f a) (f b)))
    where
      -- f does not move along c to d: then c lies on a to b
      c-alone : (f c ≤ℤ min_z (f c) (f d)) × (max_z (f c) (f d) ≤ℤ f c) → min_z (f c) (f d) ≤ℤ min_z (f a) (f b)
          → Meeting a b c d ⊎ (f a ≡ f c)
      c-alone u k =
          let low = ≤ℤ-trans o.up u.1 in
          ⊎_elim (λ m. inl (meeting-swaps m)) (λ ab. inr (≤ℤ-antisym (≤ℤ-trans (one_number ab).0 low)
          (≤ℤ-trans u.0 (≤ℤ-trans k (min-l (f a) (f b)))))) (onto c d a b l.c-on low (≤ℤ-trans u.0 o.down))

-- segments that start at one point
starts-met : (a b c d : Point) → a.x ≡ c.x → a.y ≡ c.y → Meeting a b c d
starts-met a b c d ex ey = record {
  on-ab = at-start;
  on-cd = at-start;
  same = one-point (alone a.x b.x c.x d.x ex) (alone a.y b.y c.y d.y ey);
}
  where
    alone : (a b c d : ℤ) → a ≡ c → total at-start *ℤ mixed at-start a b ≡ total at-start *ℤ mixed at-start c d
    alone =
        prove 4 (λ a b c d. (
          (a := c) ∷ [],
          same_e (con (pos 1)) (con (pos 0)) (con (pos 1)) (con (pos 0)) a b c d,
          hyp 0,
        )) tt

-- x moves along one of the two, or y does, or each is a point
lined : (a b c d : Point) → Level a b c d → Passed a b c d → Meeting a b c d
lined a b c d l s =
    ⊎_elim (λ m. m) (λ ex. ⊎_elim (λ m. m) (starts-met a b c d ex) (moves y-affine a b c d l s.ys))
    (moves x-affine a b c d l s.xs)

-- ---------------- the test passed tells of a shared point

-- whoever passes the test meets: c falls from c to d, or rises, or all ends stand on one line
passed-meeting : (a b c d : Point) → Passed a b c d → Meeting a b c d
passed-meeting a b c d s =
    let c_c = c_of a b c in
    let c_d = c_of a b d in
    let c_a = c_of c d a in
    let c_b = c_of c d b in
    let e = same-fall a b c d in
    ⊎_elim (λ l. meeting-swaps (crossed c d a b s.of-cd s.of-ab (climbs c_d c_c c_a c_b e l)))
    (⊎_elim (crossed a b c d s.of-ab s.of-cd) (λ same.
    let z = zeros s.of-ab same in
    let w = zeros s.of-cd (stays c_d c_c c_a c_b e same) in
    lined a b c d (record { a-on = w.0; b-on = w.1; c-on = z.0; d-on = z.1 }) s)) (order c_c c_d)

-- THE TEST: two segments pass it exactly when one rational point lies on both. A segment may have equal ends.
pub share-meeting : (a b c d : Point) → T (share a b c d) ↔ Meeting a b c d
share-meeting a b c d =
    (λ t. passed-meeting a b c d (passed-read a b c d t), λ m. passed-make a b c d (meeting-passes m))
