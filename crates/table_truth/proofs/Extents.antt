-- The least and the greatest of a row of numbers: they have what each of the numbers has, and bound each of them.
-- Both are a fold of a choice between two numbers, so each law is proved once, of any such fold.
use mathlib.Core.Path.{◌≡◌, refl, sym, ap, subst, ◌∙◌}
use mathlib.Core.Logic.{⊎_elim}
use Prim.Native.Nat.{ℕ, zero, suc, ◌+◌, ◌-◌, ◌≤◌}
use native.Mathlib.Nat.{add-zero}
use native.Mathlib.Omega.{arith}
use lib.IntN.{ℤ}
use lib.Signed.{◌≤ℤ◌, lt_z, ≤ℤ_refl}
use Rattle.integers.specs.Laws.{cond_ind}
use Rattle.integers.specs.Order.{≤ℤ-trans, min_z, max_z, min-l, min-r, max-l, max-r}
use Rattle.rules.specs.Tree.{least, greatest}
use Rattle.visits.proofs.Held.{Within}
use Rattle.table_truth.proofs.Rows.{≤-or->}

-- a fold of f i, f (i + 1), .. f (i + k) by a choice of two numbers
record Fold (pick : ℤ → ℤ → ℤ) (fold : (ℕ → ℤ) → ℕ → ℕ → ℤ) : Type 0 where
  one : (f : ℕ → ℤ) (i : ℕ) → fold f i zero ≡ f i
  more : (f : ℕ → ℤ) (i k : ℕ) → fold f i (suc k) ≡ pick (fold f i k) (f (i + suc k))

module _ {pick : ℤ → ℤ → ℤ} {fold : (ℕ → ℤ) → ℕ → ℕ → ℤ} (w : Fold pick fold) where
  -- where f from i on is g from j on
  fold-part : (f g : ℕ → ℤ) (i j k : ℕ) → ((m : ℕ) → m ≤ k → f (i + m) ≡ g (j + m)) → fold f i k ≡ fold g j k
  fold-part f g i j zero h = w.one f i ∙ (simp add-zero at (h 0 (omega arith))) ∙ sym (w.one g j)
  fold-part f g i j (suc k) h =
      w.more f i k
      ∙ (λ t. pick (fold-part f g i j k (λ m l. h m (omega arith)) t) (h (suc k) (omega arith) t))
      ∙ sym (w.more g j k)

  -- what each of the numbers has the fold has, where the choice of two has what both have
  fold-all : (Q : ℤ → Type 0) → ((a b : ℤ) → Q a → Q b → Q (pick a b))
      → (f : ℕ → ℤ) (i k : ℕ) → ((j : ℕ) → i ≤ j → j ≤ i + k → Q (f j)) → Q (fold f i k)
  fold-all Q p f i zero h = subst Q (sym (w.one f i)) (h i (omega arith) (omega arith))
  fold-all Q p f i (suc k) h =
      subst Q (sym (w.more f i k))
      (p _ _ (fold-all Q p f i k (λ j a b. h j a (omega arith))) (h (i + suc k) (omega arith) (omega arith)))

  -- the fold bounds each of the numbers, where the choice bounds what one of its two bounds
  fold-bounds : (R : ℤ → ℤ → Type 0) → ((v : ℤ) → R v v)
      → ((a b v : ℤ) → R a v → R (pick a b) v) → ((a b v : ℤ) → R b v → R (pick a b) v)
      → (f : ℕ → ℤ) (i k j : ℕ) → i ≤ j → j ≤ i + k → R (fold f i k) (f j)
  fold-bounds R r p q f i zero j h l = subst (λ (z : ℤ). R z (f j)) (sym (w.one f i ∙ ap f (omega arith))) (r (f j))
  fold-bounds R r p q f i (suc k) j h l =
      subst (λ (z : ℤ). R z (f j)) (sym (w.more f i k))
      (⊎_elim (λ e. p _ _ _ (fold-bounds R r p q f i k j h e))
      (λ e. q _ _ _ (subst (λ (n : ℕ). R (f n) (f j)) (omega arith) (r (f j))))
      (≤-or-> j (i + k)))

-- ---------------- the least and the greatest of f i, f (i + 1), .. f (i + k)

least-fold : Fold min_z least
unfolding least
least-fold = record { one = λ f i. refl; more = λ f i k. refl }

greatest-fold : Fold max_z greatest
unfolding greatest
greatest-fold = record { one = λ f i. refl; more = λ f i k. refl }

pub least-part : (f g : ℕ → ℤ) (i j k : ℕ) → ((m : ℕ) → m ≤ k → f (i + m) ≡ g (j + m)) → least f i k ≡ least g j k
least-part = fold-part least-fold

pub greatest-part : (f g : ℕ → ℤ) (i j k : ℕ) → ((m : ℕ) → m ≤ k → f (i + m) ≡ g (j + m))
    → greatest f i k ≡ greatest g j k
greatest-part = fold-part greatest-fold

-- the least is at most each of the numbers
least-below : (f : ℕ → ℤ) (i k j : ℕ) → i ≤ j → j ≤ i + k → least f i k ≤ℤ f j
least-below =
    fold-bounds least-fold (λ a v. a ≤ℤ v) ≤ℤ_refl
    (λ a b v h. ≤ℤ-trans (min-l a b) h) (λ a b v h. ≤ℤ-trans (min-r a b) h)

greatest-above : (f : ℕ → ℤ) (i k j : ℕ) → i ≤ j → j ≤ i + k → f j ≤ℤ greatest f i k
greatest-above =
    fold-bounds greatest-fold (λ a v. v ≤ℤ a) ≤ℤ_refl
    (λ a b v h. ≤ℤ-trans h (max-l a b)) (λ a b v h. ≤ℤ-trans h (max-r a b))

-- what holds of each of the numbers holds of the least and of the greatest
least-all : (Q : ℤ → Type 0) (f : ℕ → ℤ) (i k : ℕ) → ((j : ℕ) → i ≤ j → j ≤ i + k → Q (f j)) → Q (least f i k)
least-all Q = fold-all least-fold Q (λ a b p q. cond_ind (lt_z a b) a b Q (λ _. p) (λ _. q))

greatest-all : (Q : ℤ → Type 0) (f : ℕ → ℤ) (i k : ℕ) → ((j : ℕ) → i ≤ j → j ≤ i + k → Q (f j))
    → Q (greatest f i k)
greatest-all Q = fold-all greatest-fold Q (λ a b p q. cond_ind (lt_z a b) b a Q (λ _. q) (λ _. p))

-- ---------------- over the points first to last of a run

module _ (f : ℕ → ℤ) (first last : ℕ) where
  abbrev pub lo : ℤ
  lo = least f first (last - first)

  abbrev pub hi : ℤ
  hi = greatest f first (last - first)

  -- each of the numbers lies between them
  pub run-within : (j : ℕ) → first ≤ j → j ≤ last → Within lo hi (f j)
  run-within j h k = (
    least-below f first (last - first) j h (omega arith),
    greatest-above f first (last - first) j h (omega arith),
  )

  -- and what holds of each of the numbers holds of both
  pub run-all : first ≤ last → (Q : ℤ → Type 0) → ((j : ℕ) → first ≤ j → j ≤ last → Q (f j)) → Q lo × Q hi
  run-all order Q h = (
    least-all Q f first (last - first) (λ j a b. h j a (omega arith)),
    greatest-all Q f first (last - first) (λ j a b. h j a (omega arith)),
  )
