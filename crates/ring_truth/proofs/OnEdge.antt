-- The test that z is on a segment says that z is a weighted mean of the segment's ends. With v = z − a and w = b − z,
-- the box says that v and w do not disagree in sign in either coordinate. The weights are |b − a|² − t(z) and t(z).
use mathlib.Core.Path.{◌≡◌, sym, ap}
use mathlib.Core.Bool.{Bool, cond, ◌&&◌}
use mathlib.Core.List.{[], ◌∷◌}
use mathlib.Core.Logic.{◌↔◌, ⊎_elim}
use lib.Dec.{T}
use lib.IntN.{ℤ, pos, ◌+ℤ◌, ◌-ℤ◌, ◌*ℤ◌}
use lib.Signed.{le_z, lt_z, ◌≤ℤ◌, ◌<ℤ◌, le_z_yes}
use mir.Facts.{and_yes, yes_and}
use Rattle.integers.specs.Laws.{test-ind}
use Rattle.integers.specs.Poly.{Expr, con, ◌:+◌, ◌:*◌, ◌:-◌}
use Rattle.integers.specs.Check.{Stmt, ◌:≤◌, ◌:<◌, ◌:=◌, hyp, num, sqr, mul, ◌⊞◌, ◌⊠◌, prove, scaled}
use Rattle.integers.specs.Order.{≤ℤ-or-<ℤ, ≤ℤ-trans, ≤ℤ-antisym, ≡→≤ℤ, cancel-≤, eq_z-yes, yes-eq_z}
use Rattle.integers.specs.Order.{min-l, min-r, max-l, max-r}
use Rattle.rules.specs.declared.Point.{Point}
use Rattle.rules.specs.Plane.{eq_z, min_z, max_z, step, c_at, t_at, size²}
use Rattle.rules.specs.Plain.{range_holds, on_segment}
use Rattle.visits.specs.Weights.{Weights, total, mixed}
use Rattle.visits.proofs.Terms.{size_e}
use Rattle.visits.proofs.Points.{PointE, step_e, size²E, c_at_e, t_at_e, prove-of, scaled-of, one-point}
use Rattle.visits.proofs.Weights.{mean-least, mean-most, at-start, between}
use Rattle.ring_truth.specs.OnEdge.{Lies}

-- z − a and b − z do not disagree in sign
abbrev Way : ℤ → ℤ → ℤ → Type 0
Way a b z = pos 0 ≤ℤ ((z -ℤ a) *ℤ (b -ℤ z))

abbrev way_e : Expr → Expr → Expr → Stmt
way_e a b z = con (pos 0) :≤ (z :- a) :* (b :- z)

-- z is the mean of a and b with the weights p and q
abbrev pub mean_e : Expr → Expr → Expr → Expr → Expr → Stmt
mean_e p q a b z = (p :+ q) :* z := p :* a :+ q :* b

-- ---------------- the test, read and made

module _ (z a b : Point) where
  abbrev in_x : Bool
  in_x = range_holds a.x b.x z.x

  abbrev in_y : Bool
  in_y = range_holds a.y b.y z.y

  abbrev flat : Bool
  flat = eq_z (c_at a (step a b) z) (pos 0)

  -- z lies between a and b in both coordinates, and on the line through them
  record On : Type 0 where
    along_x : Way a.x b.x z.x
    along_y : Way a.y b.y z.y
    level : c_at a (step a b) z ≡ pos 0

  on_read : T (on_segment z a b) → On
  unfolding on_segment
  on_read t =
      let h = and_yes (in_x && in_y) flat t in
      let k = and_yes in_x in_y h.0 in
      record {
        along_x = way a.x b.x z.x k.0;
        along_y = way a.y b.y z.y k.1;
        level = eq_z-yes h.1;
      }
    where
      way : (a b v : ℤ) → T (range_holds a b v) → Way a b v
      way a b v t =
          let h = and_yes (le_z (min_z a b) v) (le_z v (max_z a b)) t in
          test-ind (λ c. cond c a b ≤ℤ v → v ≤ℤ cond c b a → Way a b v) (lt_z a b)
          (λ _. prove 3 (λ a b v. ((a :≤ v) ∷ (v :≤ b) ∷ [], way_e a b v, hyp 0 ⊠ hyp 1)) tt a b v)
          (λ _. prove 3 (λ a b v. ((b :≤ v) ∷ (v :≤ a) ∷ [], way_e a b v, hyp 0 ⊠ hyp 1)) tt a b v)
          (le_z_yes h.0) (le_z_yes h.1)

  -- a mean of a and b is neither below both nor above both, and c is 0 there
  lies-on : Lies z a b → T (on_segment z a b)
  unfolding on_segment
  lies-on l =
      yes_and (in_x && in_y) flat
      (yes_and in_x in_y (in-range a.x b.x z.x mean_x) (in-range a.y b.y z.y mean_y)) (yes-eq_z level)
    where
      w : Weights
      w = l.weights

      mean_x : total w *ℤ z.x ≡ mixed w a.x b.x
      mean_x = ap (λ v. v.x) l.mean

      mean_y : total w *ℤ z.y ≡ mixed w a.y b.y
      mean_y = ap (λ v. v.y) l.mean

      in-range : (a b z : ℤ) → total w *ℤ z ≡ mixed w a b → T (range_holds a b z)
      in-range a b z e =
          let k = total w in
          let lo = min_z a b in
          let hi = max_z a b in
          yes_and (le_z lo z) (le_z z hi)
          (cancel-≤ k lo z w.some (≤ℤ-trans (mean-least w lo a b (min-l a b) (min-r a b)) (≡→≤ℤ (sym e)))).le
          (cancel-≤ k z hi w.some (≤ℤ-trans (≡→≤ℤ e) (mean-most w hi a b (max-l a b) (max-r a b)))).le

      level : c_at a (step a b) z ≡ pos 0
      level =
          scaled-of 3 2 (λ z a b p q.
          let u = step_e a b in (
            (con (pos 0) :< p :+ q) ∷ mean_e p q a.x b.x z.x ∷ mean_e p q a.y b.y z.y ∷ [],
            c_at_e a u z := con (pos 0),
            hyp 0,
            mul u.x 2 ⊞ mul (a.y :- b.y) 1,
          )) tt z a b w.p w.q w.some mean_x mean_y

-- ---------------- weights from the test

-- where (z − a)² ≤ 0, z is the mean of a alone: (1 − d)² − d² and (1 + d)² − d² are not negative for d = z − a
start-alone : (a b z : ℤ) → ((z -ℤ a) *ℤ (z -ℤ a)) ≤ℤ pos 0 → total at-start *ℤ z ≡ mixed at-start a b
start-alone a b z h =
    prove 3 (λ a b z. ((z := a) ∷ [], mean_e (con (pos 1)) (con (pos 0)) a b z, hyp 0)) tt a b z
    (≤ℤ-antisym
    (scaled 2 (λ a z. ((still a z) ∷ [], z :≤ a, num 1, sqr (con (pos 1) :- (z :- a)) ⊞ hyp 0)) tt a z h)
    (scaled 2 (λ a z. ((still a z) ∷ [], a :≤ z, num 1, sqr (con (pos 1) :+ (z :- a)) ⊞ hyp 0)) tt a z h))
  where
    still : Expr → Expr → Stmt
    still a z = (z :- a) :* (z :- a) :≤ con (pos 0)

module _ (z a b : Point) (o : On z a b) where
  -- where a = b, z is both
  ends-equal : size² (step a b) ≤ℤ pos 0 → Lies z a b
  ends-equal h = record {
    weights = at-start;
    mean =
        one-point (start-alone a.x b.x z.x (small a.x a.y b.x b.y z.x h o.along_x))
        (start-alone a.y b.y z.y (small a.y a.x b.y b.x z.y (flip (step a b) h) o.along_y));
  }
    where
      flip : (u : Point) → size² u ≤ℤ pos 0 → (u.y *ℤ u.y +ℤ u.x *ℤ u.x) ≤ℤ pos 0
      flip = prove-of 1 0 (λ u. ((size²E u :≤ con (pos 0)) ∷ [], u.y :* u.y :+ u.x :* u.x :≤ con (pos 0), hyp 0)) tt

      small : (a a' b b' z : ℤ) → ((b -ℤ a) *ℤ (b -ℤ a) +ℤ (b' -ℤ a') *ℤ (b' -ℤ a')) ≤ℤ pos 0 → Way a b z
          → ((z -ℤ a) *ℤ (z -ℤ a)) ≤ℤ pos 0
      small =
          prove 5 (λ a a' b b' z. (
            (size_e (b :- a) (b' :- a') :≤ con (pos 0)) ∷ way_e a b z ∷ [],
            (z :- a) :* (z :- a) :≤ con (pos 0),
            hyp 0 ⊞ num 2 ⊠ hyp 1 ⊞ sqr (b :- z) ⊞ sqr (b' :- a'),
          )) tt

  -- elsewhere the weights are |b − a|² − t(z) and t(z)
  ends-differ : pos 0 <ℤ size² (step a b) → Lies z a b
  ends-differ h = record {
    weights = between (pos 0) (t_at a (step a b) z) (size² (step a b)) after-start before-end h;
    mean =
        one-point
        (prove-of 3 0 (λ z a b. (flat_e z a b ∷ [], foot_e z a b a.x b.x z.x, mul (a.y :- b.y) 0)) tt
        z a b o.level)
        (prove-of 3 0 (λ z a b. (flat_e z a b ∷ [], foot_e z a b a.y b.y z.y, mul (b.x :- a.x) 0)) tt
        z a b o.level);
  }
    where
      flat_e : PointE → PointE → PointE → Stmt
      flat_e z a b = c_at_e a (step_e a b) z := con (pos 0)

      foot_e : PointE → PointE → PointE → Expr → Expr → Expr → Stmt
      foot_e z a b = let t = t_at_e a (step_e a b) z in mean_e (size²E (step_e a b) :- t) (t :- con (pos 0))

      after-start : pos 0 ≤ℤ t_at a (step a b) z
      after-start =
          prove-of 3 0 (λ z a b. (
            way_e a.x b.x z.x ∷ way_e a.y b.y z.y ∷ [],
            con (pos 0) :≤ t_at_e a (step_e a b) z,
            hyp 0 ⊞ hyp 1 ⊞ sqr (z.x :- a.x) ⊞ sqr (z.y :- a.y),
          )) tt z a b o.along_x o.along_y

      before-end : t_at a (step a b) z ≤ℤ size² (step a b)
      before-end =
          prove-of 3 0 (λ z a b. (
            way_e a.x b.x z.x ∷ way_e a.y b.y z.y ∷ [],
            t_at_e a (step_e a b) z :≤ size²E (step_e a b),
            hyp 0 ⊞ hyp 1 ⊞ sqr (b.x :- z.x) ⊞ sqr (b.y :- z.y),
          )) tt z a b o.along_x o.along_y

-- z passes the test exactly when it is a weighted mean of a and b, equal ends included
pub on-lies : (z a b : Point) → T (on_segment z a b) ↔ Lies z a b
on-lies z a b = (
  λ t. let o = on_read z a b t in
      ⊎_elim (ends-equal z a b o) (ends-differ z a b o) (≤ℤ-or-<ℤ (size² (step a b)) (pos 0)),
  lies-on z a b,
)
