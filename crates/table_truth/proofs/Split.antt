-- The split rule: the split that is found by going through the inner points in order is the best of
-- them. A point better than the best so far is as good as all before it; any other leaves the best where it is.
use mathlib.Core.Path.{◌≡◌, sym, subst, ◌∙◌}
use mathlib.Core.Bool.{not, ◌&&◌, ◌||◌}
use mathlib.Core.List.{List}
use mathlib.Core.Logic.{◌⊎◌, inl, inr, ⊎_elim}
use Prim.Native.Nat.{ℕ, zero, suc, ◌+◌, ◌-◌, ◌≤◌, ◌<◌}
use native.Mathlib.Nat.{le_antisymm}
use native.Mathlib.Omega.{arith}
use lib.Dec.{T, ltb, eqb, ltb→lt, nltb→le, eqb→eq}
use lib.IntN.{ℤ}
use mir.Facts.{and_yes, and_no, or_yes, or_no, eqb_no}
use Rattle.integers.specs.Laws.{cond_ind}
use Rattle.rules.specs.Tree.{height, off_middle, better, best, split_of}
use Rattle.table_truth.specs.BestSplit.{AsGood, BestSplit}
use Rattle.table_truth.proofs.Rows.{≤-or->, best-between, split_between}

-- ---------------- heights h and distances o from the middle, of a point s and of a later point j

taken : (h o h' o' : ℕ) → T (ltb h h' || (eqb h h' && ltb o' o)) → (h < h') ⊎ ((h ≡ h') × (o' < o))
taken h o h' o' t =
    ⊎_elim (λ l. inl (ltb→lt h h' l))
    (λ e. let b = and_yes (eqb h h') (ltb o' o) e in inr (eqb→eq h h' b.0, ltb→lt o' o b.1))
    (or_yes (ltb h h') _ t)

kept : (h o h' o' : ℕ) → T (not (ltb h h' || (eqb h h' && ltb o' o))) → (h' ≤ h) × (h' ≡ h → o ≤ o')
kept h o h' o' t =
    let p = or_no (ltb h h') (eqb h h' && ltb o' o) t in
    let q = and_no (eqb h h') (ltb o' o) p.1 in
    (nltb→le h h' p.0, λ e. ⊎_elim (λ n. absurd (eqb_no n (sym e))) (nltb→le o' o) q)

-- ---------------- the best so far

module _ (ps : List ℤ) (first last : ℕ) where
  as-good-self : (i : ℕ) → AsGood ps first last i i
  as-good-self i = record { high = omega arith; middle = λ _. omega arith; lower = λ _ _. omega arith }

  as-good-kept : (s j : ℕ) → s ≤ j → T (not (better ps first last s j)) → AsGood ps first last s j
  unfolding better
  as-good-kept s j h t =
      let k = kept (height ps first last s) _ (height ps first last j) _ t in
      record { high = k.0; middle = k.1; lower = λ _ _. h }

  as-good-taken : (s j i : ℕ) → T (better ps first last s j) → AsGood ps first last s i → AsGood ps first last j i
  unfolding better
  as-good-taken s j i t g =
      ⊎_elim
      (λ l. record { high = omega arith; middle = λ e. absurd (omega arith); lower = λ e _. absurd (omega arith) })
      (λ l. record {
        high = omega arith;
        middle = λ e. omega (arith, l.1, g.middle (e ∙ sym l.0));
        lower = λ e d. absurd (omega (arith, l.1, g.middle (e ∙ sym l.0)));
      })
      (taken (height ps first last s) (off_middle first last s) (height ps first last j) (off_middle first last j) t)

  -- an inner point among the first k + 1 is one of the first k, or the last of them
  best-so-far : (k i : ℕ) → first < i → i ≤ first + 1 + k → AsGood ps first last (best ps first last k) i
  unfolding best
  best-so-far zero i h l =
      subst (λ (n : ℕ). AsGood ps first last (first + 1) n) (omega arith) (as-good-self (first + 1))
  best-so-far (suc k) i h l =
      let s = best ps first last k in
      let j = first + 1 + suc k in
      let b = best-between ps first last k in
      cond_ind (better ps first last s j) j s (λ n. AsGood ps first last n i)
      (λ t. ⊎_elim (λ e. as-good-taken s j i t (best-so-far k i h e)) (λ e. at_last e (as-good-self j)) one_more)
      (λ t. ⊎_elim (λ e. best-so-far k i h e) (λ e. at_last e (as-good-kept s j (omega arith) t)) one_more)
    where
      one_more : (i ≤ first + 1 + k) ⊎ (first + 1 + suc k ≡ i)
      one_more = ⊎_elim (λ e. inl e) (λ e. inr (omega arith)) (≤-or-> i (first + 1 + k))

      at_last : {s j : ℕ} → j ≡ i → AsGood ps first last s j → AsGood ps first last s i
      at_last {s} e g = subst (λ (n : ℕ). AsGood ps first last s n) e g

-- the split of a run of more than one segment is the best of its inner points
pub best-split : (ps : List ℤ) (first last : ℕ) → first + 1 < last → BestSplit ps first last (split_of ps first last)
unfolding split_of
best-split ps first last h = record {
  inner = split_between ps first last h;
  best = λ i k l. best-so-far ps first last (last - first - 2) i k (omega arith);
}

-- there is one best split
pub best-split-unique : (ps : List ℤ) (first last s r : ℕ) → BestSplit ps first last s → BestSplit ps first last r
    → s ≡ r
best-split-unique ps first last s r p q =
    let a = p.best r q.inner.above q.inner.below in
    let b = q.best s p.inner.above p.inner.below in
    let e : height ps first last s ≡ height ps first last r = le_antisymm b.high a.high in
    let d : off_middle first last s ≡ off_middle first last r = le_antisymm (a.middle (sym e)) (b.middle e) in
    le_antisymm (a.lower (sym e) (sym d)) (b.lower e d)
