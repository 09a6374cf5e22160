-- Laws of what is joined over a row of numbers: some, every, an odd number of them.
use mathlib.Core.Path.{◌≡◌, refl, ◌∙◌, ap, subst}
use mathlib.Core.Bool.{Bool, true, false, ◌||◌, or_assoc, or-true, false≢true}
use Prim.Native.Nat.{ℕ, zero, suc, ◌+◌, ◌≤◌, ◌<◌}
use native.Mathlib.Decide.{ℕ_discrete}
use native.Mathlib.Nat.{add-zero, add-suc, zero-add, suc-add}
use native.Mathlib.Omega.{arith}
use lib.Dec.{T}
use mir.Facts.{and_yes, yes_and}
use Rattle.integers.specs.Laws.{test-ind}
use Rattle.rules.specs.Plain.{joined, ◌⊕◌, some_of, every_of, odd_of}

-- ---------------- the operations
pub ⊕-assoc : (a b c : Bool) → a ⊕ b ⊕ c ≡ a ⊕ (b ⊕ c)
⊕-assoc true true true = refl
⊕-assoc true true false = refl
⊕-assoc true false c = refl
⊕-assoc false b c = refl

pub ⊕-comm : (a b : Bool) → a ⊕ b ≡ b ⊕ a
⊕-comm true true = refl
⊕-comm true false = refl
⊕-comm false true = refl
⊕-comm false false = refl

pub ⊕-false : (a : Bool) → a ⊕ false ≡ a
⊕-false true = refl
⊕-false false = refl

-- ---------------- any associative operation with a unit on the left
module _ (join : Bool → Bool → Bool) (none : Bool) (unit : (b : Bool) → join none b ≡ b)
    (assoc : (a b c : Bool) → join (join a b) c ≡ join a (join b c)) (p : ℕ → Bool) where
  pub joined-append : (i j k : ℕ)
      → joined join none p i (j + k) ≡ join (joined join none p i j) (joined join none p (i + j) k)
  unfolding joined
  joined-append i zero k = rw (zero-add, add-zero, unit)
  joined-append i (suc j) k =
      rw (suc-add j k, assoc, add-suc i j, ← suc-add i j) (ap (join (p i)) (joined-append (suc i) j k))

-- two properties that are the same on rows of k numbers, from i and from j on, are joined to the same
pub joined-moved : (join : Bool → Bool → Bool) (none : Bool) (p q : ℕ → Bool) (i j k : ℕ)
    → ((m : ℕ) → m < k → p (i + m) ≡ q (j + m)) → joined join none p i k ≡ joined join none q j k
unfolding joined
joined-moved join none p q i j zero h = refl
joined-moved join none p q i j (suc k) h =
    let first : p i ≡ q j = simp add-zero at (h 0 (omega arith)) in
    λ d. join (first d)
    (joined-moved join none p q (suc i) (suc j) k (λ m l. simp suc-add (simp add-suc at (h (suc m) (omega arith)))) d)

-- and so two that are the same on the numbers i to i + k - 1
pub joined_same : (join : Bool → Bool → Bool) (none : Bool) (p q : ℕ → Bool) (i k : ℕ)
    → ((j : ℕ) → i ≤ j → j < i + k → p j ≡ q j) → joined join none p i k ≡ joined join none q i k
joined_same join none p q i k h = joined-moved join none p q i i k (λ m l. h (i + m) (omega arith) (omega arith))

-- one number, where the operation has its unit on the right
pub joined-one : (join : Bool → Bool → Bool) (none : Bool) → ((b : Bool) → join b none ≡ b)
    → (p : ℕ → Bool) (i : ℕ) → joined join none p i 1 ≡ p i
unfolding joined
joined-one join none unit p i = unit (p i)

-- ---------------- some, every, an odd number
pub some_of-append : (p : ℕ → Bool) (i j k : ℕ) → some_of p i (j + k) ≡ some_of p i j || some_of p (i + j) k
some_of-append = joined-append ◌||◌ false (λ b. refl) or_assoc

pub odd_of-append : (p : ℕ → Bool) (i j k : ℕ) → odd_of p i (j + k) ≡ odd_of p i j ⊕ odd_of p (i + j) k
odd_of-append = joined-append ◌⊕◌ false (λ b. refl) ⊕-assoc

-- ---------------- some
pub some_of-none : (p : ℕ → Bool) (i k : ℕ) → ((j : ℕ) → i ≤ j → j < i + k → p j ≡ false) → some_of p i k ≡ false
unfolding joined
some_of-none p i zero h = refl
some_of-none p i (suc k) h =
    λ d. h i (omega arith) (omega arith) d || some_of-none p (suc i) k (λ j l m. h j (omega arith) (omega arith)) d

pub some_of-make : (p : ℕ → Bool) (i k j : ℕ) → i ≤ j → j < i + k → p j ≡ true → some_of p i k ≡ true
unfolding joined
some_of-make p i zero j l h e = absurd (omega arith)
some_of-make p i (suc k) j l h e =
    elim (ℕ_discrete i j) [
      | yes q ↦ ap (λ (b : Bool). b || some_of p (suc i) k) (ap p q ∙ e)
      | no q ↦ ap (λ (b : Bool). p i || b) (some_of-make p (suc i) k j (omega arith) (omega arith) e) ∙ or-true (p i)
    ]

abbrev pub Somewhere : (ℕ → Bool) → ℕ → ℕ → Type 0
Somewhere p i k = (j : ℕ) × (i ≤ j) × (j < i + k) × (p j ≡ true)

pub some_of-read : (p : ℕ → Bool) (i k : ℕ) → some_of p i k ≡ true → Somewhere p i k
unfolding joined
some_of-read p i zero e = absurd (false≢true e)
some_of-read p i (suc k) e =
    test-ind (λ b. b || some_of p (suc i) k ≡ true → Somewhere p i (suc k)) (p i)
    (λ q _. (i, omega arith, omega arith, q))
    (λ _ h. let r = some_of-read p (suc i) k h in (r.0, omega (arith, r.1), omega (arith, r.2), r.3)) e

-- ---------------- every
pub every_of-read : (p : ℕ → Bool) (i k : ℕ) → T (every_of p i k) → (j : ℕ) → i ≤ j → j < i + k → T (p j)
unfolding joined
every_of-read p i zero h j l m = absurd (omega arith)
every_of-read p i (suc k) h j l m =
    let q = and_yes (p i) (every_of p (suc i) k) h in
    elim (ℕ_discrete i j) [
      | yes e ↦ subst (λ (n : ℕ). T (p n)) e q.0
      | no e ↦ every_of-read p (suc i) k q.1 j (omega arith) (omega arith)
    ]

pub every_of-make : (p : ℕ → Bool) (i k : ℕ) → ((j : ℕ) → i ≤ j → j < i + k → T (p j)) → T (every_of p i k)
unfolding joined
every_of-make p i zero h = tt
every_of-make p i (suc k) h =
    yes_and (p i) (every_of p (suc i) k) (h i (omega arith) (omega arith))
    (every_of-make p (suc i) k (λ j l m. h j (omega arith) (omega arith)))
