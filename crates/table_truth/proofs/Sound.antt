-- A table built without refusal is sound: at each node the row is good, and strip and box hold every point of the run.
-- The rows of a node stand in the table from its row number on, and so do the rows of its halves.
use mathlib.Core.Path.{◌≡◌, refl, ap, ◌∙◌}
use mathlib.Core.Bool.{true, false}
use mathlib.Core.List.{List, ◌++◌}
use mathlib.Core.Logic.{⊎_elim}
use mathlib.Core.Option.{none}
use Prim.Native.Nat.{ℕ, zero, suc, ◌+◌, ◌*◌, ◌-◌, ◌≤◌, ◌<◌}
use native.Mathlib.Nat.{mul-add}
use native.Mathlib.Omega.{arith}
use lib.Dec.{T}
use lib.IntN.{ℤ, pos, nat_abs}
use lib.ListN.{drop}
use lib.Seq.{drop-drop}
use mir.Facts.{leb_no}
use Rattle.integers.specs.Laws.{cond_ind}
use Rattle.integers.specs.Order.{T_true, yes-T}
use Rattle.rules.specs.declared.Node.{Node}
use Rattle.rules.specs.Plane.{same_point}
use Rattle.rules.specs.Sheet.{point, segments_of, on_sheet}
use Rattle.rules.specs.Tree.{split_of, width, row_at, measured, no_split, rows_of}
use Rattle.rules.specs.Rows.{split_good, good}
use Rattle.rules.specs.Questions.{root, leaf, size, left_of, right_of}
use Rattle.rules.specs.Build.{row_holds, sound_from, sound, build_refusal, table_of, built_table}
use Rattle.visits.proofs.Counts.{every_of-make}
use Rattle.table_truth.specs.Buildable.{row_numbers}
use Rattle.table_truth.proofs.Rows.{split_between, leaf-or-inner, leaf-front, inner-front, left-rows, right-rows}
use Rattle.table_truth.proofs.Rows.{row-start}
use Rattle.table_truth.proofs.Refusals.{buildable, points_on, some-segment}
use Rattle.table_truth.proofs.Table.{built-whole}
use Rattle.table_truth.proofs.Measured.{◌also◌, measured-holds, measured-good, split_good_lem, leaf-good}
use Rattle.table_truth.proofs.Measured.{no-split-good}

-- a node is sound whose row is the measured one and good, and whose halves are sound
module _ (f : ℕ) (ps t : List ℤ) (n : Node) (z : ℤ) where
  abbrev Sound : Node → Type 0
  Sound m = sound_from f ps t m ≡ true

  sound-make : n.first < n.last → row_at t n.row ≡ measured ps n.first n.last z
      → good ps (measured ps n.first n.last z) n.first n.last ≡ true
      → (n.first + 1 < n.last → Sound (left_of n (nat_abs z)) × Sound (right_of n (nat_abs z)))
      → sound_from (suc f) ps t n ≡ true
  unfolding sound_from row_holds measured
  sound-make l e g h =
      simp e (g
      also yes-T _ (every_of-make _ n.first (suc (size n)) (λ i a b.
      T_true (measured-holds ps n.first n.last (omega arith) z i a (omega arith))))
      also cond_ind (leaf n) true _ (λ b. b ≡ true) (λ _. refl) (λ q. let k = h (leb_no q) in k.0 also k.1))

-- ---------------- a table in which the rows of a line stand

module _ (ps t : List ℤ) (segments : ℕ) (on : (i : ℕ) → i ≤ segments → on_sheet (point ps i) ≡ true)
    (differ : (i : ℕ) → i < segments → same_point (point ps i) (point ps (suc i)) ≡ false) where
  -- the run's row is good
  row-good : (first last : ℕ) (z : ℤ) → first < last → last ≤ segments
      → split_good (measured ps first last z) first last ≡ true → good ps (measured ps first last z) first last ≡ true
  row-good first last z l m s =
      measured-good ps first last (omega arith) z (λ i a b. on i (omega arith)) s
      (leaf-good ps first last λ k.
      let e : last ≡ suc first = omega arith in rw e (differ first (omega arith)))

  -- from its row number on, a node's rows stand in the table
  abbrev Stands : ℕ → Node → List ℤ → Type 0
  Stands f n rest = drop (width * n.row) t ≡ rows_of f ps n.first n.last ++ rest

  front : (f : ℕ) (n : Node) (rest : List ℤ) → Stands f n rest
      → row_at t n.row ≡ row_at (rows_of f ps n.first n.last ++ rest) 0
  front f n rest e = row-start t n.row ∙ ap (λ (l : List ℤ). row_at l 0) e

  -- the rows k rows on
  rows_on : (f : ℕ) (n : Node) (rest : List ℤ) (k : ℕ) → Stands f n rest
      → drop (width * (n.row + k)) t ≡ drop (width * k) (rows_of f ps n.first n.last ++ rest)
  rows_on f n rest k e = rw (mul-add, ← drop-drop, e)

  -- where a node's rows stand, it is sound
  stands-sound : (f : ℕ) (n : Node) (rest : List ℤ) → n.first < n.last → n.last ≤ segments → n.last ≤ f + n.first
      → Stands f n rest → sound_from f ps t n ≡ true
  stands-sound zero n rest l m k e = absurd (omega arith)
  stands-sound (suc f) n rest l m k e =
      ⊎_elim
      (λ h.
      sound-make f ps t n no_split l
      (front (suc f) n rest e ∙ leaf-front (suc f) ps n.first n.last rest h (omega arith))
      (row-good n.first n.last no_split l m (no-split-good ps n.first n.last h)) (λ q. absurd (omega arith)))
      (λ h.
      let s = split_of ps n.first n.last in
      let i = split_between ps n.first n.last h in
      sound-make f ps t n (pos s) l (front (suc f) n rest e ∙ inner-front f ps n.first n.last rest h)
      (row-good n.first n.last (pos s) l m (split_good_lem ps n.first n.last s h i))
      (λ _. (
        stands-sound f (left_of n s) (rows_of f ps s n.last ++ rest) i.above (omega arith) (omega arith)
            (rows_on (suc f) n rest 1 e ∙ left-rows f ps n.first n.last rest h),
        stands-sound f (right_of n s) rest i.below m (omega arith)
            (rows_on (suc f) n rest (2 * (s - n.first)) e ∙ right-rows f ps n.first n.last rest h k),
      )))
      (leaf-or-inner n.first n.last)

-- ---------------- the main theorem

-- a table built without refusal is sound
pub built-sound : (ps t : List ℤ) → build_refusal ps t ≡ none → T (sound ps (built_table ps t))
unfolding sound table_of
built-sound ps t e =
    let a = buildable ps t e in
    T_true (stands-sound ps (built_table ps t) (segments_of ps) (points_on a) a.differ (segments_of ps) (root ps)
    (drop (row_numbers ps) t) (some-segment a) (omega arith) (omega arith) (built-whole ps t e))
