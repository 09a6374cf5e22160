-- The exact test says what it should: some point of the segment is at most D away. From the test that point is the
-- start, the end or the foot of z; and back, no point of the segment is nearer than the one that the test looks at.
use mathlib.Core.Bool.{Bool}
use mathlib.Core.List.{[], ◌∷◌}
use mathlib.Core.Logic.{◌↔◌}
use Prim.Native.Nat.{ℕ}
use lib.Dec.{T}
use lib.IntN.{ℤ, pos, ◌*ℤ◌}
use lib.Signed.{◌≤ℤ◌, ◌<ℤ◌, le_z, le_z_yes}
use Rattle.integers.specs.Laws.{cond_ind}
use Rattle.integers.specs.Poly.{Expr, con, ◌:+◌, ◌:*◌, ◌:-◌}
use Rattle.integers.specs.Check.{Stmt, ◌:≤◌, ◌:<◌, Cert, hyp, num, sqr, ◌⊞◌, ◌⊠◌}
use Rattle.integers.specs.Order.{<ℤ-trans, <ℤ-weaken, le_z-no}
use Rattle.rules.specs.declared.Point.{Point}
use Rattle.rules.specs.Plane.{step, size², c_at, t_at}
use Rattle.rules.specs.Plain.{within}
use Rattle.visits.proofs.Points.{PointE, step_e, size²E, c_at_e, t_at_e, prove-of, scaled-of}
use Rattle.visits.proofs.Weights.{weights_e, weighed_e, times_e, at-start, reversed, between}
use Rattle.near_truth.specs.Reach.{Reach}

-- (p + q)·z − (p·a + q·b), and that it is at most D away, as terms
abbrev pub away_e : Expr → Expr → PointE → PointE → PointE → PointE
away_e p q z a b = step_e (weighed_e p q a b) (times_e (p :+ q) z)

abbrev at-most_e : Expr → Expr → PointE → PointE → PointE → Expr → Stmt
at-most_e p q z a b D = size²E (away_e p q z a b) :≤ (p :+ q) :* (p :+ q) :* (D :* D)

-- k² − 1, where hypothesis n says 0 < k
abbrev square-but-one : ℕ → Cert
square-but-one n = hyp n ⊠ hyp n ⊞ num 2 ⊠ hyp n

module _ (z a b : Point) (D : ℤ) where
  -- the points of a segment do not depend on which end is its start
  reach-reversed : Reach z a b D → Reach z b a D
  reach-reversed r = record {
    weights = reversed r.weights;
    at_most =
        prove-of 3 3 (λ z a b p q D. (at-most_e p q z a b D ∷ [], at-most_e q p z b a D, hyp 0)) tt
        z a b r.weights.p r.weights.q D r.at_most;
  }

  -- where the start is near, it is such a point
  from_start : size² (step a z) ≤ℤ (D *ℤ D) → Reach z a b D
  from_start h = record {
    weights = at-start;
    at_most =
        prove-of 3 1 (λ z a b D. (
          (size²E (step_e a z) :≤ D :* D) ∷ [],
          at-most_e (con (pos 1)) (con (pos 0)) z a b D,
          hyp 0,
        )) tt z a b D h;
  }

  -- and before the start, no point of the segment is nearer
  start-nearest : Reach z a b D → t_at a (step a b) z ≤ℤ pos 0 → size² (step a z) ≤ℤ (D *ℤ D)
  start-nearest r i =
      let k = r.weights in
      scaled-of 3 3 (λ z a b p q D.
      let u = step_e a b in (
        weights_e p q (at-most_e p q z a b D ∷ (t_at_e a u z :≤ con (pos 0)) ∷ []),
        size²E (step_e a z) :≤ D :* D,
        square-but-one 2,
        hyp 3 ⊞ num 2 ⊠ (hyp 0 ⊞ hyp 1) ⊠ hyp 1 ⊠ hyp 4 ⊞ sqr (q :* u.x) ⊞ sqr (q :* u.y) ⊞ square-but-one 2,
      )) tt z a b k.p k.q D k.p≥0 k.q≥0 k.some r.at_most i

module _ (z a b : Point) (D : ℤ) where
  -- c(z), t(z) and |u|²
  abbrev c : ℤ
  c = c_at a (step a b) z

  abbrev t : ℤ
  t = t_at a (step a b) z

  abbrev L : ℤ
  L = size² (step a b)

  -- past the end, no point of the segment is nearer than the end: taken the other way, that is before the start
  end-nearest : Reach z a b D → L ≤ℤ t → size² (step b z) ≤ℤ (D *ℤ D)
  end-nearest r i =
      start-nearest z b a D (reach-reversed z a b D r)
      (prove-of 3 0 (λ z a b. (
        (size²E (step_e a b) :≤ t_at_e a (step_e a b) z) ∷ [],
        t_at_e b (step_e b a) z :≤ con (pos 0),
        hyp 0,
      )) tt z a b i)

  -- where the foot of z is near, it is such a point: by its weights |u|² − t(z) and t(z) the squared way is |u|²·c(z)²
  foot-near : pos 0 <ℤ t → t <ℤ L → (c *ℤ c) ≤ℤ (D *ℤ D *ℤ L) → Reach z a b D
  foot-near i j h = record {
    weights = between (pos 0) t L (<ℤ-weaken i) (<ℤ-weaken j) (<ℤ-trans i j);
    at_most =
        prove-of 3 1 (λ z a b D.
        let u = step_e a b in
        let t = t_at_e a u z in (
          (c_at_e a u z :* c_at_e a u z :≤ D :* D :* size²E u) ∷ [],
          at-most_e (size²E u :- t) (t :- con (pos 0)) z a b D,
          (sqr u.x ⊞ sqr u.y) ⊠ hyp 0,
        )) tt z a b D h;
  }

  -- and no point of the segment is nearer than the line through it
  line-nearest : Reach z a b D → (c *ℤ c) ≤ℤ (D *ℤ D *ℤ L)
  line-nearest r =
      scaled-of 3 3 (λ z a b p q D.
      let u = step_e a b in
      let v = away_e p q z a b in (
        (con (pos 0) :< p :+ q) ∷ at-most_e p q z a b D ∷ [],
        c_at_e a u z :* c_at_e a u z :≤ D :* D :* size²E u,
        square-but-one 0,
        (sqr u.x ⊞ sqr u.y) ⊠ hyp 1 ⊞ sqr (u.x :* v.x :+ u.y :* v.y) ⊞ square-but-one 0,
      )) tt z a b r.weights.p r.weights.q D r.weights.some r.at_most

  -- what holds in each of the three cases of the exact test holds of the test
  by-case : (Q : Bool → Type 0) → (t ≤ℤ pos 0 → Q (le_z (size² (step a z)) (D *ℤ D)))
      → (L ≤ℤ t → Q (le_z (size² (step b z)) (D *ℤ D)))
      → (pos 0 <ℤ t → t <ℤ L → Q (le_z (c *ℤ c) (D *ℤ D *ℤ L))) → Q (within z a b D)
  unfolding within
  by-case Q f g h =
      cond_ind (le_z t (pos 0)) _ _ Q (λ i. f (le_z_yes i))
      (λ i. cond_ind (le_z L t) _ _ Q (λ j. g (le_z_yes j)) (λ j. h (le_z-no i) (le_z-no j)))

  -- a yes of the exact test shows a point of the segment at most D away
  pub reach-of-within : T (within z a b D) → Reach z a b D
  reach-of-within =
      by-case (λ y. T y → Reach z a b D) (λ _ h. from_start z a b D (le_z_yes h))
      (λ _ h. reach-reversed z b a D (from_start z b a D (le_z_yes h))) (λ i j h. foot-near i j (le_z_yes h))

  -- and a point of the segment at most D away makes the exact test say yes
  pub within-of-reach : Reach z a b D → T (within z a b D)
  within-of-reach r =
      by-case T (λ i. (start-nearest z a b D r i).le) (λ i. (end-nearest r i).le) (λ _ _. (line-nearest r).le)

  -- z is within D of the segment exactly when some point of the segment is at most D away
  pub within-reach : T (within z a b D) ↔ Reach z a b D
  within-reach = (reach-of-within, within-of-reach)
