-- A mean of two numbers lies between them; and the weights of some points of a segment.
use mathlib.Core.List.{List, [], ◌∷◌}
use lib.IntN.{ℤ, pos, ◌-ℤ◌, ◌*ℤ◌}
use lib.Signed.{◌≤ℤ◌, ◌<ℤ◌, le_z_yes, lt_z_yes}
use Rattle.integers.specs.Poly.{Expr, con, ◌:+◌, ◌:*◌, ◌:-◌}
use Rattle.integers.specs.Check.{Stmt, ◌:≤◌, ◌:<◌, hyp, ◌⊞◌, ◌⊠◌, prove}
use Rattle.visits.specs.Weights.{Weights, total, mixed}
use Rattle.visits.proofs.Points.{PointE}

-- ---------------- as terms

-- not negative and not both 0
abbrev pub weights_e : Expr → Expr → List Stmt → List Stmt
weights_e p q more = (con (pos 0) :≤ p) ∷ (con (pos 0) :≤ q) ∷ (con (pos 0) :< p :+ q) ∷ more

abbrev pub weighed_e : Expr → Expr → PointE → PointE → PointE
weighed_e p q a b = record { x = p :* a.x :+ q :* b.x; y = p :* a.y :+ q :* b.y }

abbrev pub times_e : Expr → PointE → PointE
times_e k z = record { x = k :* z.x; y = k :* z.y }

-- ---------------- a mean lies between

module _ (w : Weights) (k a b : ℤ) where
  -- a mean of numbers that are at least k is at least k
  pub mean-least : k ≤ℤ a → k ≤ℤ b → (total w *ℤ k) ≤ℤ mixed w a b
  mean-least h l =
      prove 5 (λ p q k a b. (
        weights_e p q ((k :≤ a) ∷ (k :≤ b) ∷ []),
        (p :+ q) :* k :≤ p :* a :+ q :* b,
        hyp 0 ⊠ hyp 3 ⊞ hyp 1 ⊠ hyp 4,
      )) tt w.p w.q k a b w.p≥0 w.q≥0 w.some h l

  -- of numbers that are at most k, at most k
  pub mean-most : a ≤ℤ k → b ≤ℤ k → mixed w a b ≤ℤ (total w *ℤ k)
  mean-most h l =
      prove 5 (λ p q k a b. (
        weights_e p q ((a :≤ k) ∷ (b :≤ k) ∷ []),
        p :* a :+ q :* b :≤ (p :+ q) :* k,
        hyp 0 ⊠ hyp 3 ⊞ hyp 1 ⊠ hyp 4,
      )) tt w.p w.q k a b w.p≥0 w.q≥0 w.some h l

  -- of numbers above k, above k
  pub mean-above : k <ℤ a → k <ℤ b → (total w *ℤ k) <ℤ mixed w a b
  mean-above h l =
      prove 5 (λ p q k a b. (
        weights_e p q ((k :< a) ∷ (k :< b) ∷ []),
        (p :+ q) :* k :< p :* a :+ q :* b,
        hyp 0 ⊠ hyp 3 ⊞ hyp 1 ⊠ hyp 4 ⊞ hyp 2,
      )) tt w.p w.q k a b w.p≥0 w.q≥0 w.some h l

-- ---------------- weights

-- the start alone
abbrev pub at-start : Weights
at-start = record { p = pos 1; q = pos 0; p≥0 = le_z_yes tt; q≥0 = le_z_yes tt; some = lt_z_yes tt }

-- the same point from the other end
abbrev pub reversed : Weights → Weights
reversed w = record {
  p = w.q;
  q = w.p;
  p≥0 = w.q≥0;
  q≥0 = w.p≥0;
  some = prove 2 (λ p q. ((con (pos 0) :< p :+ q) ∷ [], con (pos 0) :< q :+ p, hyp 0)) tt w.p w.q w.some;
}

-- where a measure is lo at the start and hi at the end, the point at which it is v
abbrev pub between : (lo v hi : ℤ) → lo ≤ℤ v → v ≤ℤ hi → lo <ℤ hi → Weights
between lo v hi l h m = record {
  p = hi -ℤ v;
  q = v -ℤ lo;
  p≥0 = difference v hi h;
  q≥0 = difference lo v l;
  some = prove 3 (λ lo v hi. ((lo :< hi) ∷ [], con (pos 0) :< hi :- v :+ (v :- lo), hyp 0)) tt lo v hi m;
}
  where
    difference : (a b : ℤ) → a ≤ℤ b → pos 0 ≤ℤ (b -ℤ a)
    difference = prove 2 (λ a b. ((a :≤ b) ∷ [], con (pos 0) :≤ b :- a, hyp 0)) tt
