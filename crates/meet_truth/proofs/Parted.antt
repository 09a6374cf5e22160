-- No affine function parts two segments that share a point: it has one value there, and that value lies between its
-- values at the ends of each segment. Everything that tells two segments apart is such a function.
use mathlib.Core.Path.{◌≡◌, sym, ap}
use mathlib.Core.List.{[], ◌∷◌}
use lib.IntN.{ℤ, ◌*ℤ◌}
use lib.Signed.{◌≤ℤ◌, ◌<ℤ◌, <ℤ-≤ℤ_trans}
use Rattle.integers.specs.Poly.{Expr, ◌:+◌, ◌:*◌, :neg}
use Rattle.integers.specs.Check.{Stmt, ◌:<◌, ◌:=◌, hyp, mul, ◌⊞◌, ◌⊠◌, prove}
use Rattle.integers.specs.Order.{≤-<ℤ-trans}
use Rattle.rules.specs.declared.Point.{Point}
use Rattle.visits.specs.Weights.{Weights, total, mixed}
use Rattle.visits.proofs.Points.{refute-of, one-point}
use Rattle.visits.proofs.Weights.{weights_e, reversed}
use Rattle.visits.proofs.Affine.{Affine, affine_e}
use Rattle.meet_truth.specs.Meeting.{Meeting}

-- (p·a + q·b) / (p + q) is (r·c + s·d) / (r + s), of numbers
abbrev pub same_e : Expr → Expr → Expr → Expr → Expr → Expr → Expr → Expr → Stmt
same_e p q r s a b c d = (r :+ s) :* (p :* a :+ q :* b) := (p :+ q) :* (r :* c :+ s :* d)

-- ---------------- neither the order of the segments nor of their ends matters

pub meeting-swaps : {a b c d : Point} → Meeting a b c d → Meeting c d a b
meeting-swaps m = record { on-ab = m.on-cd; on-cd = m.on-ab; same = sym m.same }

pub meeting-reversed : {a b c d : Point} → Meeting a b c d → Meeting b a c d
meeting-reversed {a} {b} {c} {d} m = record {
  on-ab = reversed m.on-ab;
  on-cd = m.on-cd;
  same =
      one-point (back a.x b.x c.x d.x (ap (λ v. v.x) m.same))
      (back a.y b.y c.y d.y (ap (λ v. v.y) m.same));
}
  where
    Same : Weights → ℤ → ℤ → ℤ → ℤ → Type 0
    Same w a b c d = total m.on-cd *ℤ mixed w a b ≡ total w *ℤ mixed m.on-cd c d

    back : (a b c d : ℤ) → Same m.on-ab a b c d → Same (reversed m.on-ab) b a c d
    back =
        prove 8 (λ p q r s a b c d. (same_e p q r s a b c d ∷ [], same_e q p r s b a c d, hyp 0)) tt
        m.on-ab.p m.on-ab.q m.on-cd.p m.on-cd.q

-- ---------------- nothing affine parts them

-- f is not less at both ends of the one segment than at both ends of the other
parted : {a b c d : Point} {f : Point → ℤ} → Affine f → Meeting a b c d
    → f a <ℤ f c → f a <ℤ f d → f b <ℤ f c → f b <ℤ f d → ⊥
parted {a} {b} {c} {d} {f} h m ac ad bc bd =
    let w = m.on-ab in
    let v = m.on-cd in
    refute-of 4 11 (λ a b c d α β γ p q r s fa fb fc fd. (
      weights_e p q (weights_e r s ((fa :< fc) ∷ (fa :< fd) ∷ (fb :< fc) ∷ (fb :< fd)
          ∷ affine_e α β γ a fa ∷ affine_e α β γ b fb ∷ affine_e α β γ c fc ∷ affine_e α β γ d fd
          ∷ same_e p q r s a.x b.x c.x d.x ∷ same_e p q r s a.y b.y c.y d.y ∷ [])),
      hyp 0 ⊠ hyp 3 ⊠ hyp 6 ⊞ hyp 0 ⊠ hyp 4 ⊠ hyp 7 ⊞ hyp 1 ⊠ hyp 3 ⊠ hyp 8 ⊞ hyp 1 ⊠ hyp 4 ⊠ hyp 9
          ⊞ hyp 2 ⊠ hyp 5 ⊞ hyp 2 ⊞ hyp 5 ⊞ mul (:neg ((r :+ s) :* p)) 10 ⊞ mul (:neg ((r :+ s) :* q)) 11
          ⊞ mul ((p :+ q) :* r) 12 ⊞ mul ((p :+ q) :* s) 13 ⊞ mul (:neg α) 14 ⊞ mul (:neg β) 15,
    )) tt a b c d h.α h.β h.γ w.p w.q v.p v.q (f a) (f b) (f c) (f d)
    w.p≥0 w.q≥0 w.some v.p≥0 v.q≥0 v.some ac ad bc bd (h.is a) (h.is b) (h.is c) (h.is d)
    (ap (λ z. z.x) m.same) (ap (λ z. z.y) m.same)

module _ {a b c d : Point} {f : Point → ℤ} (h : Affine f) (m : Meeting a b c d) (k : ℤ) where
  -- a and b are not above k, c and d are
  pub parted-above : f a ≤ℤ k → f b ≤ℤ k → k <ℤ f c → k <ℤ f d → ⊥
  parted-above ka kb kc kd = parted h m (≤-<ℤ-trans ka kc) (≤-<ℤ-trans ka kd) (≤-<ℤ-trans kb kc) (≤-<ℤ-trans kb kd)

  -- a and b are not below k, c and d are
  pub parted-below : k ≤ℤ f a → k ≤ℤ f b → f c <ℤ k → f d <ℤ k → ⊥
  parted-below ka kb kc kd =
      parted h (meeting-swaps m) (<ℤ-≤ℤ_trans kc ka) (<ℤ-≤ℤ_trans kc kb) (<ℤ-≤ℤ_trans kd ka) (<ℤ-≤ℤ_trans kd kb)
