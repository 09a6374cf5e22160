-- A node's run is handed on as a part that starts in the middle of the line: what is measured of the part gives the
-- node's row and split. And the rows of a node begin with its own.
use mathlib.Core.Path.{◌≡◌, sym, ap, ◌∙◌}
use mathlib.Core.Bool.{Bool, cond}
use mathlib.Core.List.{List, ◌++◌}
use Prim.Native.Nat.{ℕ, pred, ◌+◌, ◌*◌, ◌-◌, ◌≤◌, ◌<◌}
use native.Mathlib.Omega.{arith}
use borrow.Author.Tests.{le-leb, lt-leb}
use lib.IntN.{ℤ, pos}
use lib.ListN.{length, take, drop, length-drop}
use lib.Seq.{length-take-le}
use Rattle.rules.specs.declared.Row.{Row}
use Rattle.rules.specs.Sheet.{segments_of, on_sheet}
use Rattle.rules.specs.Tree.{split_of, measured, no_split, is_leaf, numbers, rows_of}
use Rattle.table_truth.proofs.Rows.{best-between, leaf-rows, inner-rows}
use Rattle.table_truth.proofs.Part.{part-point, standing, split-part, measured-part}
use Rattle.run.specs.declared.Measured.{Measured}
use Rattle.run.specs.Run.{AllOnSheet, measure_of}
use Rattle.build.specs.Rows.{node_row}

-- the row of a run from first to last, by what is measured of it
abbrev pub row_of : ℕ → ℕ → ℤ → Measured → Row
row_of first last split m = record {
  first = pos first;
  last = pos last;
  split = split;
  cmin = m.c.lo;
  cmax = m.c.hi;
  tmin = m.t.lo;
  tmax = m.t.hi;
  xmin = m.x.lo;
  xmax = m.x.hi;
  ymin = m.y.lo;
  ymax = m.y.hi;
}

-- the part of the line from point first to point last
abbrev pub run_of : List ℤ → ℕ → ℕ → List ℤ
run_of ps first last = take (2 * last + 2 - 2 * first) (drop (2 * first) ps)

-- the split of a run is at most its last point
pub split-up-to : (ps : List ℤ) (first last : ℕ) → first < last → split_of ps first last ≤ last
unfolding split_of
split-up-to ps first last h = let b = best-between ps first last (last - first - 2) in omega arith

module _ (ps : List ℤ) (first last : ℕ) (order : first < last) (room : 2 * last + 2 ≤ length ps) where
  -- it is as long as its points ask, and has their segments
  run_length : length (run_of ps first last) ≡ 2 * last + 2 - 2 * first
  run_length =
      length-take-le (2 * last + 2 - 2 * first) (drop (2 * first) ps) (omega (arith, length-drop (2 * first) ps))

  pub run-segments : segments_of (run_of ps first last) ≡ last - first
  run-segments = let n = run_length in omega arith

  -- the points of a run on the sheet
  pub run_on : AllOnSheet ps → AllOnSheet (run_of ps first last)
  run_on on i h =
      let n = run_length in
      ap on_sheet (part-point ps first (2 * last + 2 - 2 * first) i (omega arith)) ∙ on (first + i) (omega arith)

  -- the row of a node, by what is measured of its run
  pub run_row : (s : ℤ) → row_of first last s (measure_of (run_of ps first last)) ≡ measured ps first last s
  run_row s =
      ap (λ (k : ℕ). standing first last s (measured (run_of ps first last) 0 k no_split)) run-segments
      ∙ sym (measured-part ps first last (2 * last + 2 - 2 * first) (omega arith) (omega arith) s no_split)

  -- its split
  pub run-split : first + split_of (run_of ps first last) 0 (segments_of (run_of ps first last))
      ≡ split_of ps first last
  run-split =
      ap (λ (n : ℕ). first + split_of (run_of ps first last) 0 n) run-segments
      ∙ sym (split-part ps first last (2 * last + 2 - 2 * first) (omega arith) (omega arith))

module _ (ps : List ℤ) (first last : ℕ) where
  -- by whether the node is a leaf
  by_kind : {b : Bool} → is_leaf first last ≡ b
      → node_row ps first last ≡ measured ps first last (cond b no_split (pos (split_of ps first last)))
  by_kind e = ap (λ (b : Bool). measured ps first last (cond b no_split (pos (split_of ps first last)))) e

  -- one level of the rows: of a leaf, and of a node with an inner point
  pub leaf-level : (f : ℕ) → last ≤ first + 1 → 0 < f → numbers (node_row ps first last) ≡ rows_of f ps first last
  leaf-level f h k = ap numbers (by_kind (le-leb last (first + 1) h)) ∙ sym (leaf-rows f ps first last h k)

  pub inner-level : (f s : ℕ) → first + 1 < last → 0 < f → s ≡ split_of ps first last
      → numbers (node_row ps first last) ++ (rows_of (pred f) ps first s ++ rows_of (pred f) ps s last)
      ≡ rows_of f ps first last
  inner-level f s h k e =
      let row = by_kind (lt-leb last (first + 1) h) in
      (λ d. numbers (row d) ++ (rows_of (pred f) ps first (e d) ++ rows_of (pred f) ps (e d) last))
      ∙ sym (inner-rows f ps first last h k)
