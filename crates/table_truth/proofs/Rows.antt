-- The rows of a run of points: how many there are, which row stands first, and where the rows of each half stand.
-- One level of `rows_of` is a leaf's row, or a row and then the rows of both halves; everything is induction on the
-- levels.
use mathlib.Core.Path.{◌≡◌, refl, ap}
use mathlib.Core.List.{List, ◌++◌, append_assoc}
use mathlib.Core.Logic.{◌⊎◌, inl, inr, ⊎_elim}
use Prim.Native.Nat.{ℕ, zero, suc, pred, ◌+◌, ◌*◌, ◌-◌, ◌<◌, ◌≤◌}
use native.Mathlib.Decide.{dec_lt}
use native.Mathlib.Nat.{not-suc-le-zero}
use native.Mathlib.Omega.{arith}
use borrow.Author.Tests.{le-leb, lt-leb}
use lib.IntN.{ℤ, pos}
use lib.ListN.{length, drop, length-append}
use lib.Seq.{drop_at, get_or-drop}
use Rattle.integers.specs.Laws.{cond_ind}
use Rattle.rules.specs.declared.Row.{Row}
use Rattle.rules.specs.Tree.{better, best, split_of, width, numbers, row_at, measured, no_split, rows_of, row_count}
use Rattle.visits.specs.Nodes.{Inner}

-- ---------------- the split

pub best-between : (ps : List ℤ) (first last k : ℕ)
    → (first < best ps first last k) × (best ps first last k ≤ first + 1 + k)
unfolding best
best-between ps first last zero = (omega arith, omega arith)
best-between ps first last (suc k) =
    let i = best ps first last k in
    let j = first + 1 + suc k in
    let ih = best-between ps first last k in
    cond_ind (better ps first last i j) j i (λ s. (first < s) × (s ≤ first + 1 + suc k))
    (λ t. (omega arith, omega arith)) (λ t. (omega arith, omega arith))

-- a run of more than one segment splits at an inner point
pub split_between : (ps : List ℤ) (first last : ℕ) → first + 1 < last → Inner first (split_of ps first last) last
unfolding split_of
split_between ps first last h =
    let b = best-between ps first last (last - first - 2) in record { above = b.0; below = omega arith }

-- ---------------- one level

pub leaf-rows : (f : ℕ) (ps : List ℤ) (first last : ℕ) → last ≤ first + 1 → 0 < f
    → rows_of f ps first last ≡ numbers (measured ps first last no_split)
unfolding rows_of
leaf-rows zero ps first last h k = absurd (not-suc-le-zero k)
leaf-rows (suc f) ps first last h k = simp (le-leb last (first + 1) h)

pub inner-rows : (f : ℕ) (ps : List ℤ) (first last : ℕ) → first + 1 < last → 0 < f
    → rows_of f ps first last
    ≡ numbers (measured ps first last (pos (split_of ps first last)))
    ++ (rows_of (pred f) ps first (split_of ps first last) ++ rows_of (pred f) ps (split_of ps first last) last)
unfolding rows_of
inner-rows zero ps first last h k = absurd (not-suc-le-zero k)
inner-rows (suc f) ps first last h k = simp (lt-leb last (first + 1) h)

pub ≤-or-> : (a b : ℕ) → (a ≤ b) ⊎ (b < a)
≤-or-> a b = elim (dec_lt b a) [ yes h ↦ inr h | no h ↦ inl (omega arith) ]

-- a node is a leaf, or it has an inner point
pub leaf-or-inner : (first last : ℕ) → (last ≤ first + 1) ⊎ (first + 1 < last)
leaf-or-inner first last = ≤-or-> last (first + 1)

-- ---------------- how many numbers

-- two rows for each segment, but for one, in a form without differences
length-rows : (f : ℕ) (ps : List ℤ) (first last : ℕ) → first < last → last ≤ f + first
    → length (rows_of f ps first last) + 2 * width * first + width ≡ 2 * width * last
length-rows zero ps first last h k = absurd (omega arith)
length-rows (suc f) ps first last h k =
    ⊎_elim (λ l. rw (leaf-rows (suc f) ps first last l (omega arith)) (omega arith))
    (λ l.
    let s = split_of ps first last in
    let b = split_between ps first last l in
    let p = length-rows f ps first s b.above (omega arith) in
    let q = length-rows f ps s last b.below (omega arith) in
    rw (inner-rows (suc f) ps first last l (omega arith))
    (omega (arith, length-append (rows_of f ps first s) (rows_of f ps s last))))
    (leaf-or-inner first last)

-- a run of k segments has 2k - 1 rows
pub count-rows : (f : ℕ) (ps : List ℤ) (first last : ℕ) → first < last → last ≤ f + first
    → length (rows_of f ps first last) ≡ width * row_count (last - first)
count-rows f ps first last h k = omega (arith, length-rows f ps first last h k)

-- ---------------- where a row stands

-- the row at the front is the one whose numbers stand there
pub row-front : (r : Row) (t : List ℤ) → row_at (numbers r ++ t) 0 ≡ r
unfolding row_at
row-front r t = refl

-- the row at k stands at the front of the rows from k on
pub row-start : (t : List ℤ) (k : ℕ) → row_at t k ≡ row_at (drop (width * k) t) 0
unfolding row_at
row-start t k = simp get_or-drop

-- ---------------- where the rows of a node and of its halves stand, in a table of whatever stands after them

pub leaf-front : (f : ℕ) (ps : List ℤ) (first last : ℕ) (rest : List ℤ) → last ≤ first + 1 → 0 < f
    → row_at (rows_of f ps first last ++ rest) 0 ≡ measured ps first last no_split
leaf-front f ps first last rest h k =
    rw (leaf-rows f ps first last h k) (row-front (measured ps first last no_split) rest)

module _ (f : ℕ) (ps : List ℤ) (first last : ℕ) (rest : List ℤ) (inner : first + 1 < last) where
  abbrev s : ℕ
  s = split_of ps first last

  -- the row, then the left child's rows, then the right child's
  together : rows_of (suc f) ps first last ++ rest
      ≡ numbers (measured ps first last (pos s)) ++ (rows_of f ps first s ++ (rows_of f ps s last ++ rest))
  together = rw (inner-rows (suc f) ps first last inner (omega arith)) (simp append_assoc)

  pub inner-front : row_at (rows_of (suc f) ps first last ++ rest) 0 ≡ measured ps first last (pos s)
  inner-front = rw together (row-front (measured ps first last (pos s)) _)

  -- the left child's rows stand one row on
  pub left-rows : drop (width * 1) (rows_of (suc f) ps first last ++ rest)
      ≡ rows_of f ps first s ++ (rows_of f ps s last ++ rest)
  left-rows = ap (drop (width * 1)) together

  -- the right child's rows stand 2*(split - first) rows on
  pub right-rows : last ≤ suc f + first
      → drop (width * (2 * (s - first))) (rows_of (suc f) ps first last ++ rest) ≡ rows_of f ps s last ++ rest
  right-rows k =
      let row = numbers (measured ps first last (pos s)) in
      let b = split_between ps first last inner in
      let m : length (row ++ rows_of f ps first s) ≡ width * (2 * (s - first)) =
      omega (arith, length-rows f ps first s b.above (omega arith)) in
      rw (together, ← append_assoc row (rows_of f ps first s) (rows_of f ps s last ++ rest))
      (drop_at (row ++ rows_of f ps first s) (rows_of f ps s last ++ rest) (width * (2 * (s - first))) m)
