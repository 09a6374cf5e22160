-- Every number of the table of a line on the old sheet fits an i32: c and t are sums of two products of numbers that
-- are at most 2 * old_limit, and the least and the greatest are taken among them.
use mathlib.Core.Path.{◌≡◌}
use mathlib.Core.Bool.{true}
use mathlib.Core.List.{List, [], ◌∷◌, ◌++◌}
use Prim.Native.Nat.{ℕ, zero, suc, ◌+◌, ◌≤◌, ◌<◌}
use native.Mathlib.Omega.{arith}
use lib.IntN.{ℤ, pos}
use mathlib.Core.Option.{none}
use mir.Facts.{leb_no, and_yes}
use mir.Syntax.{w32}
use Rattle.integers.specs.Laws.{cond_ind}
use Rattle.integers.specs.Order.{T_true}
use Rattle.integers.specs.Range.{Abs≤, fits-of}
use Rattle.rules.specs.declared.Row.{Row}
use Rattle.rules.specs.Plane.{direction}
use Rattle.rules.specs.Sheet.{point, segments_of, most, between}
use Rattle.rules.specs.Tree.{node_c, node_t, split_of, numbers, measured, no_split, is_leaf, rows_of}
use Rattle.rules.specs.Build.{table_of}
use Rattle.rules.specs.Old.{old_limit, on_old_sheet, old_refusal}
use Rattle.limits.specs.Small.{Within}
use Rattle.limits.proofs.OnSheets.{between-abs}
use Rattle.limits.proofs.Sizes.{direction-within, c-within, t_within}
use Rattle.widen_truth.specs.RowRange.{old_widest, RowRange, AllFit}
use Rattle.visits.proofs.Checks.{◌then◌}
use Rattle.table_truth.proofs.Rows.{split_between}
use Rattle.table_truth.proofs.Refusals.{some-segment}
use Rattle.table_truth.proofs.Extents.{run-all}
use Rattle.widen_truth.proofs.Widened.{old-on, old-buildable}

-- ---------------- the measured row of a run on the sheet

module _ (ps : List ℤ) (first last : ℕ) (order : first ≤ last)
    (on : (i : ℕ) → first ≤ i → i ≤ last → on_old_sheet (point ps i) ≡ true) where
  on-at : (i : ℕ) → first ≤ i → i ≤ last → Within old_limit (point ps i)
  on-at i h k =
      let p = point ps i in
      let t = and_yes (between old_limit p.x) (between old_limit p.y) (T_true (on i h k)) in
      record { x-in = between-abs _ p.x t.0; y-in = between-abs _ p.y t.1 }

  start-on : Within old_limit (point ps first)
  start-on = on-at first (omega arith) order

  run-direction : Within (old_limit + old_limit) (direction (point ps first) (point ps last))
  run-direction = direction-within {m = old_limit} (omega arith) start-on (on-at last order (omega arith))

  measured-range : (s : ℤ) → last ≤ most → Abs≤ most s → RowRange (measured ps first last s)
  unfolding measured
  measured-range s few h =
      let c = run-all (λ i. node_c ps first last (point ps i)) first last order (Abs≤ old_widest)
      (λ i a b. c-within {m = old_limit} start-on run-direction (on-at i a b)) in
      let t = run-all (λ i. node_t ps first last (point ps i)) first last order (Abs≤ old_widest)
      (λ i a b. t_within {m = old_limit} start-on run-direction (on-at i a b)) in
      let x = run-all (λ i. (point ps i).x) first last order (Abs≤ old_limit) (λ i a b. (on-at i a b).x-in) in
      let y = run-all (λ i. (point ps i).y) first last order (Abs≤ old_limit) (λ i a b. (on-at i a b).y-in) in
      record {
        first = record { abs = omega arith };
        last = record { abs = few };
        split = h;
        cmin = c.0;
        cmax = c.1;
        tmin = t.0;
        tmax = t.1;
        xmin = x.0;
        xmax = x.1;
        ymin = y.0;
        ymax = y.1;
      }

-- ---------------- every number fits an i32

numbers_fit : (r : Row) → RowRange r → AllFit (numbers r)
numbers_fit r h =
    fits-of w32 h.first tt then fits-of w32 h.last tt then fits-of w32 h.split tt
    then fits-of w32 h.cmin tt then fits-of w32 h.cmax tt then fits-of w32 h.tmin tt
    then fits-of w32 h.tmax tt then fits-of w32 h.xmin tt then fits-of w32 h.xmax tt
    then fits-of w32 h.ymin tt then fits-of w32 h.ymax tt then tt

fit_append : (xs ys : List ℤ) → AllFit xs → AllFit ys → AllFit (xs ++ ys)
fit_append [] ys p q = q
fit_append (x ∷ xs) ys p q = (p.0, fit_append xs ys p.1 q)

module _ (ps : List ℤ) (segments : ℕ) (few : segments ≤ most)
    (on : (i : ℕ) → i ≤ segments → on_old_sheet (point ps i) ≡ true) where
  row-fit : (first last : ℕ) (s : ℤ) → first ≤ last → last ≤ segments → Abs≤ most s
      → AllFit (numbers (measured ps first last s))
  row-fit first last s l m h =
      numbers_fit (measured ps first last s)
      (measured-range ps first last l (λ i a b. on i (omega arith)) s (omega arith) h)

  -- so the rows of a run
  rows_fit : (f first last : ℕ) → first < last → last ≤ segments → AllFit (rows_of f ps first last)
  unfolding rows_of
  rows_fit zero first last l m = tt
  rows_fit (suc f) first last l m =
      let s = split_of ps first last in
      cond_ind (is_leaf first last) (numbers (measured ps first last no_split))
      (numbers (measured ps first last (pos s)) ++ (rows_of f ps first s ++ rows_of f ps s last)) AllFit
      (λ _. row-fit first last no_split (omega arith) m (record { abs = omega arith }))
      (λ t.
      let b = split_between ps first last (leb_no t) in
      fit_append (numbers (measured ps first last (pos s))) (rows_of f ps first s ++ rows_of f ps s last)
      (row-fit first last (pos s) (omega arith) m (record { abs = omega arith }))
      (fit_append (rows_of f ps first s) (rows_of f ps s last)
      (rows_fit f first s b.above (omega arith)) (rows_fit f s last b.below m)))

-- and the table of a line that the old rules take
pub old-fits : (ps t : List ℤ) → old_refusal ps t ≡ none → AllFit (table_of ps)
unfolding table_of
old-fits ps t e =
    let a = old-buildable ps t e in
    rows_fit ps (segments_of ps) (omega (arith, a.lengths.not_more))
    (λ i h. old-on ps t e i (omega (arith, a.lengths.some-points))) (segments_of ps) 0 (segments_of ps) (some-segment a)
    (omega arith)
