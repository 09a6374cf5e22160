-- A direction d, and points strictly behind z in it: 0 < d·(z − p). Over such points the crossing rule counts ends, not
-- places: a segment crosses where exactly one of its ends is marked. By the identity, for a low end l and a high end h,
--     dx·side = −((yh − zy)·d·(z − l) + (zy − yl)·d·(z − h)),
-- which says that such a segment passes to the right of z exactly when dx ≤ 0. So a run of such points counts as its
-- chord alone: the marks of inner points come twice and drop out.
use mathlib.Core.Path.{◌≡◌, refl, sym, ◌∙◌, ap}
use mathlib.Core.Bool.{Bool, true, false, not, ◌&&◌, ◌||◌}
use mathlib.Core.List.{List, [], ◌∷◌}
use Prim.Native.Nat.{ℕ, zero, suc, ◌+◌, ◌≤◌, ◌<◌}
use native.Mathlib.Omega.{arith}
use lib.IntN.{ℤ, pos}
use lib.Signed.{le_z, lt_z, ◌<ℤ◌, le_z_yes, lt_z_yes}
use Rattle.integers.specs.Laws.{test-ind}
use Rattle.integers.specs.Poly.{Expr, con, ◌:+◌, ◌:*◌, ◌:-◌}
use Rattle.integers.specs.Check.{Stmt, ◌:≤◌, ◌:<◌, Cert, hyp, num, mul, ◌⊞◌, ◌⊠◌}
use Rattle.integers.specs.Order.{T-iff, le_not, lt_yes, lt_no, no-T}
use Rattle.rules.specs.declared.Point.{Point}
use Rattle.rules.specs.Plane.{t_at}
use Rattle.rules.specs.Sheet.{point}
use Rattle.rules.specs.Plain.{on_segment, side_of, crosses, joined, ◌⊕◌, odd_of, segment_holds, segment_crosses}
use Rattle.visits.proofs.Tests.{≤ℤ-unless, <ℤ-unless}
use Rattle.visits.proofs.Points.{PointE, t_at_e, refute-of}
use Rattle.visits.proofs.Weights.{mean-above}
use Rattle.visits.proofs.Counts.{joined_same, ⊕-assoc}
use Rattle.ring_truth.proofs.OnEdge.{mean_e, on-lies}

-- p is strictly behind z in the direction d
abbrev pub Behind : Point → Point → Point → Type 0
Behind d z p = pos 0 <ℤ t_at p d z

abbrev behind_e : PointE → PointE → PointE → Stmt
behind_e d z p = con (pos 0) :< t_at_e p d z

-- p is marked: it is above z, and d does not point to the right
abbrev mark : Point → Point → Point → Bool
mark d z p = le_z d.x (pos 0) && lt_z z.y p.y

-- ---------------- the side of a low end l and a high end h

-- l is low and h is high, both behind z; and that then dx·side is below 0, by the identity
abbrev across_e : PointE → PointE → PointE → PointE → List Stmt → List Stmt
across_e d z l h more = (l.y :≤ z.y) ∷ (z.y :< h.y) ∷ behind_e d z l ∷ behind_e d z h ∷ more

abbrev product-below : Cert
product-below = hyp 1 ⊠ hyp 2 ⊞ hyp 1 ⊞ hyp 2 ⊞ hyp 0 ⊠ hyp 3 ⊞ hyp 0

abbrev side_e : PointE → PointE → PointE → Expr
side_e z l h = (h.x :- l.x) :* (z.y :- l.y) :- (z.x :- l.x) :* (h.y :- l.y)

-- the segment passes to the right of z exactly when d does not point to the right
side-sign : (d z l h : Point) → Behind d z l → Behind d z h → lt_z z.y l.y ≡ false → lt_z z.y h.y ≡ true
    → lt_z (pos 0) (side_of z l h) ≡ le_z d.x (pos 0)
side-sign d z l h bl bh low high =
    T-iff (lt_z (pos 0) (side_of z l h)) (le_z d.x (pos 0))
    (λ t. (≤ℤ-unless {a = d.x} {b = pos 0} (λ q. refute-of 4 0 (λ d z l h. (
      across_e d z l h ((con (pos 0) :< d.x) ∷ (con (pos 0) :< side_e z l h) ∷ []),
      product-below ⊞ (hyp 4 ⊞ num 1) ⊠ (hyp 5 ⊞ num 1),
    )) tt d z l h (lt_no refl refl low) (lt_yes refl refl high) bl bh q (lt_z_yes t))).le)
    (λ t. (<ℤ-unless {a = pos 0} {b = side_of z l h} (refute-of 4 0 (λ d z l h. (
      across_e d z l h ((d.x :≤ con (pos 0)) ∷ (side_e z l h :≤ con (pos 0)) ∷ []),
      product-below ⊞ hyp 4 ⊠ hyp 5,
    )) tt d z l h (lt_no refl refl low) (lt_yes refl refl high) bl bh (le_z_yes t))).lt)

-- ---------------- one segment

-- the crossing rule where both sides, if they count, are m: high ends a and b, sides r and s
by-ends : (m a b r s : Bool) → (a ≡ false → b ≡ true → r ≡ m) → (b ≡ false → a ≡ true → s ≡ m)
    → not a && b && r || not b && a && s ≡ (m && a) ⊕ (m && b)
by-ends true true true r s f g = refl
by-ends false true true r s f g = refl
by-ends true true false r s f g = g refl refl
by-ends false true false r s f g = g refl refl
by-ends true false true r s f g = ap (λ (t : Bool). t || false) (f refl refl)
by-ends false false true r s f g = ap (λ (t : Bool). t || false) (f refl refl)
by-ends true false false r s f g = refl
by-ends false false false r s f g = refl

module _ (d z a b : Point) (ba : Behind d z a) (bb : Behind d z b) where
  -- a segment behind z crosses where exactly one of its ends is marked
  crosses-marks : crosses z a b ≡ mark d z a ⊕ mark d z b
  unfolding crosses
  crosses-marks =
      (λ i. le_not a.y z.y i && lt_z z.y b.y && lt_z (pos 0) (side_of z a b)
      || le_not b.y z.y i && lt_z z.y a.y && lt_z (pos 0) (side_of z b a))
      ∙ by-ends (le_z d.x (pos 0)) (lt_z z.y a.y) (lt_z z.y b.y) _ _ (side-sign d z a b ba bb)
      (side-sign d z b a bb ba)

  -- a segment behind z does not hold z: a mean of d·(z − a) and d·(z − b) is above 0
  off-segment : on_segment z a b ≡ false
  off-segment =
      no-T (on_segment z a b) λ t.
      let l = (on-lies z a b).0 t in
      let w = l.weights in
      refute-of 4 2 (λ d z a b p q. (
        ((p :+ q) :* con (pos 0) :< p :* t_at_e a d z :+ q :* t_at_e b d z)
            ∷ mean_e p q a.x b.x z.x ∷ mean_e p q a.y b.y z.y ∷ [],
        hyp 0 ⊞ mul d.x 1 ⊞ mul d.y 2,
      )) tt d z a b w.p w.q (mean-above w (pos 0) (t_at a d z) (t_at b d z) ba bb)
      (ap (λ v. v.x) l.mean) (ap (λ v. v.y) l.mean)

-- ---------------- a run

-- what stands between comes twice
⊕-self : (a : Bool) → a ⊕ a ≡ false
⊕-self a = test-ind (λ b. b ⊕ b ≡ false) a (λ _. refl) (λ _. refl)

⊕-chain : (a b c : Bool) → a ⊕ b ⊕ (b ⊕ c) ≡ a ⊕ c
⊕-chain a b c =
    ⊕-assoc a b (b ⊕ c) ∙ ap (λ (d : Bool). a ⊕ d) (sym (⊕-assoc b b c) ∙ ap (λ (d : Bool). d ⊕ c) (⊕-self b))

-- an odd number of changes from i to i + k is a change between the two
telescope : (m : ℕ → Bool) (i k j : ℕ) → i + k ≡ j → odd_of (λ j. m j ⊕ m (suc j)) i k ≡ m i ⊕ m j
unfolding joined
telescope m i zero j e = sym (⊕-self (m i)) ∙ ap (λ (j : ℕ). m i ⊕ m j) (omega arith)
telescope m i (suc k) j e =
    ap (λ (b : Bool). m i ⊕ m (suc i) ⊕ b) (telescope m (suc i) k j (omega arith)) ∙ ⊕-chain (m i) (m (suc i)) (m j)

module _ (ps : List ℤ) (z d : Point) (i k : ℕ) (behind : (j : ℕ) → i ≤ j → j ≤ i + k → Behind d z (point ps j)) where
  -- the run counts as its chord
  pub run-chord : odd_of (segment_crosses ps z) i k ≡ crosses z (point ps i) (point ps (i + k))
  run-chord =
      joined_same ◌⊕◌ false (segment_crosses ps z) (λ j. mark d z (point ps j) ⊕ mark d z (point ps (suc j))) i k
      (λ j l m. crosses-marks d z _ _ (behind j l (omega arith)) (behind (suc j) (omega arith) m))
      ∙ telescope (λ j. mark d z (point ps j)) i k (i + k) refl
      ∙ sym (crosses-marks d z _ _ (behind i (omega arith) (omega arith)) (behind (i + k) (omega arith) (omega arith)))

  -- and none of its segments holds z
  pub run-off : (j : ℕ) → i ≤ j → j < i + k → segment_holds ps z j ≡ false
  run-off j l m = off-segment d z _ _ (behind j l (omega arith)) (behind (suc j) (omega arith) m)
