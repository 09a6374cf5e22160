-- A dismissed strip holds no segment that is within D: the shortfalls are no longer than the way to any point of a
-- segment in the strip, and c and t of that way are |u| times as long as the way itself. Neither u ≠ 0 nor a ≠ b nor
-- D ≥ 0 is needed.
use mathlib.Core.Path.{◌≡◌}
use mathlib.Core.Bool.{Bool, false, cond}
use mathlib.Core.List.{[], ◌∷◌}
use lib.Dec.{T}
use lib.IntN.{ℤ, pos, ◌+ℤ◌, ◌-ℤ◌, ◌*ℤ◌}
use lib.Signed.{◌≤ℤ◌, ◌<ℤ◌, lt_z, lt_z_yes}
use mir.Facts.{and_yes, yes_and}
use Rattle.integers.specs.Laws.{cond_ind}
use Rattle.integers.specs.Poly.{Expr, con, ◌:+◌, ◌:*◌, ◌:-◌}
use Rattle.integers.specs.Check.{Stmt, ◌:≤◌, ◌:<◌, ◌:=◌, Cert, hyp, num, sqr, ◌⊞◌, ◌⊠◌, prove, refute}
use Rattle.integers.specs.Order.{no-T, nn-add, nn-sq}
use Rattle.rules.specs.declared.Point.{Point}
use Rattle.rules.specs.declared.Row.{Row}
use Rattle.rules.specs.Plane.{size², c_at, t_at}
use Rattle.rules.specs.Plain.{within}
use Rattle.rules.specs.Questions.{shortfall, far_from}
use Rattle.rules.specs.Build.{holds_number}
use Rattle.visits.specs.Weights.{Weights, total, mixed}
use Rattle.visits.proofs.Terms.{size_e}
use Rattle.visits.proofs.Points.{size²E, c_at_e, t_at_e, ring_of}
use Rattle.visits.proofs.Weights.{mean-least, mean-most}
use Rattle.visits.proofs.Held.{number-held, held_number, Held}
use Rattle.near_truth.specs.Reach.{away, Reach, strip_holds}
use Rattle.near_truth.proofs.Within.{away_e, reach-of-within}

-- ---------------- a shortfall is no longer than the way to a mean of two numbers from lo to hi

-- (p + q)·v − (p·a + q·b)
abbrev way : Weights → ℤ → ℤ → ℤ → ℤ
way w v a b = total w *ℤ v -ℤ mixed w a b

abbrev way_e : Expr → Expr → Expr → Expr → Expr → Expr
way_e p q v a b = (p :+ q) :* v :- (p :* a :+ q :* b)

-- k times g is no longer than k times the way from v to m / k
abbrev Least : ℤ → ℤ → ℤ → ℤ → Type 0
Least k v m g = (k *ℤ g *ℤ (k *ℤ g)) ≤ℤ ((k *ℤ v -ℤ m) *ℤ (k *ℤ v -ℤ m))

abbrev least_e : Expr → Expr → Expr → Expr → Stmt
least_e k v m g = k :* g :* (k :* g) :≤ (k :* v :- m) :* (k :* v :- m)

-- where k > 0, and m / k is past an end of the range that v has not reached
abbrev past : Cert
past = hyp 1 ⊠ (hyp 1 ⊞ num 2 ⊠ (hyp 0 ⊞ num 1) ⊠ (hyp 2 ⊞ num 1))

below-least : (k lo v m : ℤ) → pos 0 <ℤ k → (k *ℤ lo) ≤ℤ m → v <ℤ lo → Least k v m (lo -ℤ v)
below-least =
    prove 4 (λ k lo v m. ((con (pos 0) :< k) ∷ (k :* lo :≤ m) ∷ (v :< lo) ∷ [], least_e k v m (lo :- v), past)) tt

above-least : (k hi v m : ℤ) → pos 0 <ℤ k → m ≤ℤ (k *ℤ hi) → hi <ℤ v → Least k v m (v -ℤ hi)
above-least =
    prove 4 (λ k hi v m. ((con (pos 0) :< k) ∷ (m :≤ k :* hi) ∷ (hi :< v) ∷ [], least_e k v m (v :- hi), past)) tt

inside-least : (k v m : ℤ) → Least k v m (pos 0)
inside-least = prove 3 (λ k v m. ([], least_e k v m (con (pos 0)), sqr (k :* v :- m))) tt

shortfall-least : (w : Weights) (lo hi v a b : ℤ) → T (holds_number lo hi a) → T (holds_number lo hi b)
    → Least (total w) v (mixed w a b) (shortfall lo hi v)
unfolding shortfall
shortfall-least w lo hi v a b ha hb =
    let la = number-held lo hi a ha in
    let lb = number-held lo hi b hb in
    let k = total w in
    let m = mixed w a b in
    cond_ind (lt_z v lo) (lo -ℤ v) (cond (lt_z hi v) (v -ℤ hi) (pos 0)) (Least k v m)
    (λ h. below-least k lo v m w.some (mean-least w lo a b la.0 lb.0) (lt_z_yes h))
    (λ _. cond_ind (lt_z hi v) (v -ℤ hi) (pos 0) (Least k v m)
    (λ h. above-least k hi v m w.some (mean-most w hi a b la.1 lb.1) (lt_z_yes h)) (λ _. inside-least k v m))

-- ---------------- c and t of the way from the mean of a and b to z are |u| times as long as the way: Lagrange
lagrange : (s u z a b : Point) (w : Weights) →
    let i = way w (c_at s u z) (c_at s u a) (c_at s u b) in
    let j = way w (t_at s u z) (t_at s u a) (t_at s u b) in i *ℤ i +ℤ j *ℤ j ≡ size² u *ℤ size² (away w z a b)
lagrange s u z a b w =
    ring_of 5 2 (λ s u z a b p q.
    size_e (way_e p q (c_at_e s u z) (c_at_e s u a) (c_at_e s u b)) (way_e p q (t_at_e s u z) (t_at_e s u a) (t_at_e s u b))
    := size²E u :* size²E (away_e p q z a b)) tt s u z a b w.p w.q

-- ---------------- k²·(g² + h²) ≤ i² + j² = U·F, F ≤ k²·D² and D²·U < g² + h² do not hold together
clash : (g h k i j U F D : ℤ) → (k *ℤ g *ℤ (k *ℤ g)) ≤ℤ (i *ℤ i) → (k *ℤ h *ℤ (k *ℤ h)) ≤ℤ (j *ℤ j)
    → i *ℤ i +ℤ j *ℤ j ≡ U *ℤ F → pos 0 ≤ℤ U → F ≤ℤ (k *ℤ k *ℤ (D *ℤ D)) → pos 0 <ℤ k
    → (D *ℤ D *ℤ U) <ℤ (g *ℤ g +ℤ h *ℤ h) → ⊥
clash =
    refute 8 (λ g h k i j U F D. (
      (k :* g :* (k :* g) :≤ i :* i) ∷ (k :* h :* (k :* h) :≤ j :* j) ∷ (size_e i j := U :* F)
          ∷ (con (pos 0) :≤ U) ∷ (F :≤ k :* k :* (D :* D)) ∷ (con (pos 0) :< k) ∷ (D :* D :* U :< size_e g h) ∷ [],
      hyp 0 ⊞ hyp 1 ⊞ hyp 2 ⊞ hyp 3 ⊠ hyp 4 ⊞ (hyp 5 ⊞ num 1) ⊠ (hyp 5 ⊞ num 1) ⊠ hyp 6 ⊞ hyp 5 ⊠ (hyp 5 ⊞ num 2),
    )) tt

-- ---------------- the theorem

module _ (r : Row) (s u z a b : Point) (D : ℤ) where
  -- whether the strip holds c, and t, of p
  abbrev holds_c : Point → Bool
  holds_c p = holds_number r.cmin r.cmax (c_at s u p)

  abbrev holds_t : Point → Bool
  holds_t p = holds_number r.tmin r.tmax (t_at s u p)

  -- no point of a segment that a dismissed strip holds is at most D away
  pub far-reaches-none : T (strip_holds r s u a) → T (strip_holds r s u b) → T (far_from r s u z D) → ¬ Reach z a b D
  unfolding far_from
  far-reaches-none ha hb far h =
      let w = h.weights in
      let ka = and_yes (holds_c a) (holds_t a) ha in
      let kb = and_yes (holds_c b) (holds_t b) hb in
      clash (shortfall r.cmin r.cmax (c_at s u z)) (shortfall r.tmin r.tmax (t_at s u z)) (total w)
      (way w (c_at s u z) (c_at s u a) (c_at s u b)) (way w (t_at s u z) (t_at s u a) (t_at s u b)) (size² u)
      (size² (away w z a b)) D
      (shortfall-least w r.cmin r.cmax (c_at s u z) (c_at s u a) (c_at s u b) ka.0 kb.0)
      (shortfall-least w r.tmin r.tmax (t_at s u z) (t_at s u a) (t_at s u b) ka.1 kb.1)
      (lagrange s u z a b w) (nn-add (nn-sq u.x) (nn-sq u.y)) h.at_most w.some (lt_z_yes far)

  -- and so the exact test of a segment that the row holds says no
  pub far-not-within : Held r s u a → Held r s u b → T (far_from r s u z D) → within z a b D ≡ false
  far-not-within ha hb far =
      let in-strip : (p : Point) → Held r s u p → T (strip_holds r s u p) =
      λ p h. yes_and (holds_c p) (holds_t p) (held_number h.c) (held_number h.t) in
      no-T (within z a b D) (λ t. far-reaches-none (in-strip a ha) (in-strip b hb) far (reach-of-within z a b D t))
