-- The measured row of a run holds every point of the run, and is good by the rules of refusal 10 where the run's points
-- are on the sheet. c and t are 0 at the run's first point, so the strip has 0 inside.
use mathlib.Core.Path.{◌≡◌, refl, ap}
use mathlib.Core.Bool.{Bool, true, false, not, ◌&&◌}
use mathlib.Core.List.{List}
use Prim.Native.Nat.{ℕ, ◌+◌, ◌≤◌, ◌<◌}
use native.Mathlib.Omega.{arith}
use borrow.Author.Tests.{le-leb, lt-leb, lt-ltb, leb-true}
use lib.IntN.{ℤ, pos}
use mir.Facts.{and_yes}
use Rattle.integers.specs.Laws.{test-ind}
use Rattle.integers.specs.Order.{≤ℤ-trans, T_true, yes-T, le-true, yes-eq_z}
use Rattle.rules.specs.declared.Point.{Point}
use Rattle.rules.specs.Plane.{eq_z, same_point, direction}
use Rattle.rules.specs.Sheet.{point, on_sheet, in_sheet}
use Rattle.rules.specs.Tree.{node_c, node_t, is_leaf, no_split, measured}
use Rattle.rules.specs.Rows.{split_good, side_good, leaf_good, good}
use Rattle.rules.specs.Build.{holds_number, holds_point}
use Rattle.visits.specs.Nodes.{Inner}
use Rattle.visits.proofs.Held.{held_number}
use Rattle.visits.proofs.Terms.{c-start, t-start}
use Rattle.table_truth.proofs.Extents.{lo, hi, run-within, run-all}

-- ---------------- tests that hold

infixl 4 ◌also◌
pub ◌also◌ : {a b : Bool} → a ≡ true → b ≡ true → a && b ≡ true
p also q = λ t. p t && q t

both-in : (p : Point) → on_sheet p ≡ true → (in_sheet p.x ≡ true) × (in_sheet p.y ≡ true)
both-in p e =
    let h = and_yes (in_sheet p.x) (in_sheet p.y) (T_true e) in
    (yes-T (in_sheet p.x) h.0, yes-T (in_sheet p.y) h.1)

same_number : (v : ℤ) → eq_z v v ≡ true
same_number v = yes-T (eq_z v v) (yes-eq_z {a = v} {b = v} refl)

-- ---------------- f over the points first to last

module _ (f : ℕ → ℤ) (first last : ℕ) where
  -- the least and the greatest hold each of the numbers
  held : (j : ℕ) → first ≤ j → j ≤ last → holds_number (lo f first last) (hi f first last) (f j) ≡ true
  held j h k = yes-T _ (held_number (run-within f first last j h k))

  -- and where each of the numbers is in the sheet, so are they
  side-good : first ≤ last → ((j : ℕ) → first ≤ j → j ≤ last → in_sheet (f j) ≡ true)
      → side_good (lo f first last) (hi f first last) ≡ true
  side-good order h =
      let on = run-all f first last order (λ z. in_sheet z ≡ true) h in
      let w = run-within f first last first (omega arith) order in
      le-true (≤ℤ-trans w.0 w.1) also on.0 also on.1

-- ---------------- the measured row

module _ (ps : List ℤ) (first last : ℕ) (order : first ≤ last) (s : ℤ) where
  abbrev c_of : ℕ → ℤ
  c_of j = node_c ps first last (point ps j)

  abbrev t_of : ℕ → ℤ
  t_of j = node_t ps first last (point ps j)

  -- strip and box hold every point of the run
  pub measured-holds : (i : ℕ) → first ≤ i → i ≤ last
      → holds_point (measured ps first last s) ps first last (point ps i) ≡ true
  unfolding measured holds_point
  measured-holds i h k =
      held c_of first last i h k
      also held t_of first last i h k
      also (held (λ j. (point ps j).x) first last i h k also held (λ j. (point ps j).y) first last i h k)

  -- the row is good where its split is, its points are on the sheet, and a leaf's two points differ
  pub measured-good : ((i : ℕ) → first ≤ i → i ≤ last → on_sheet (point ps i) ≡ true)
      → split_good (measured ps first last s) first last ≡ true
      → leaf_good ps first last ≡ true → good ps (measured ps first last s) first last ≡ true
  unfolding measured good
  measured-good on split leaf =
      let u = direction (point ps first) (point ps last) in
      let c = rw (c-start (point ps first) u) at (run-within c_of first last first (omega arith) order) in
      let t = rw (t-start (point ps first) u) at (run-within t_of first last first (omega arith) order) in
      (same_number (pos first) also same_number (pos last))
      also split
      also (le-true c.0 also le-true c.1 also le-true t.0 also le-true t.1)
      also (side-good (λ j. (point ps j).x) first last order (λ j h k. (both-in (point ps j) (on j h k)).0)
      also side-good (λ j. (point ps j).y) first last order (λ j h k. (both-in (point ps j) (on j h k)).1))
      also (on first (omega arith) order also on last order (omega arith))
      also leaf

-- ---------------- a node's split, and a leaf's two points

pub split_good_lem : (ps : List ℤ) (first last s : ℕ) → first + 1 < last → Inner first s last
    → split_good (measured ps first last (pos s)) first last ≡ true
unfolding measured
split_good_lem ps first last s h i =
    rw (lt-leb last (first + 1) h) (lt-ltb first s i.above also lt-ltb s last i.below)

pub no-split-good : (ps : List ℤ) (first last : ℕ) → last ≤ first + 1
    → split_good (measured ps first last no_split) first last ≡ true
unfolding measured
no-split-good ps first last h = rw (le-leb last (first + 1) h) refl

pub leaf-good : (ps : List ℤ) (first last : ℕ)
    → (last ≤ first + 1 → same_point (point ps first) (point ps last) ≡ false) → leaf_good ps first last ≡ true
leaf-good ps first last d =
    test-ind (λ b. not (b && same_point (point ps first) (point ps last)) ≡ true) (is_leaf first last)
    (λ e. ap not (d (leb-true last (first + 1) e))) (λ _. refl)
