-- What the old rules let a builder write is what the builder writes now: the old sheet lies on the new one, and no
-- other rule has changed.
use mathlib.Core.Path.{◌≡◌, sym, ap, ◌∙◌}
use mathlib.Core.Bool.{true, not}
use mathlib.Core.List.{List, [], ◌∷◌, ◌++◌, append_assoc, append-nil}
use mathlib.Core.Option.{none}
use Prim.Native.Nat.{ℕ, ◌≤◌, ◌<◌}
use native.Mathlib.Omega.{arith}
use borrow.Author.Tests.{not-false, le-ltb, ltb-false}
use lib.Dec.{T}
use lib.IntN.{ℤ}
use lib.ListN.{length, drop, length-append}
use lib.Seq.{drop-append-le, drop-length}
use mir.Facts.{and_yes, yes_and}
use Rattle.integers.specs.Order.{T_true, yes-T}
use Rattle.integers.specs.Range.{abs-weaken}
use Rattle.rules.specs.declared.Line.TheVariants.{LineA}
use Rattle.rules.specs.declared.Point.{Point}
use Rattle.rules.specs.Sheet.{point, points_of, segments_of, limit, between, in_sheet, on_sheet}
use Rattle.rules.specs.Build.{equal_next, table_of, build_refusal, built_table, unless_refused}
use Rattle.rules.specs.Old.{old_limit, on_old_sheet, old_checks, old_refusal, old_table, widen_check, widen_refusal, widened}
use Rattle.limits.proofs.OnSheets.{between-abs, abs-between}
use Rattle.visits.proofs.Checks.{Clear, ◌then◌, none-clear, clear_none, lengths_read}
use Rattle.table_truth.specs.Buildable.{Buildable, row_numbers}
use Rattle.table_truth.proofs.Refusals.{none_has, none-refused}
use Rattle.table_truth.proofs.Table.{built-whole, built-length, buildable-longer}

-- ---------------- the old sheet lies on the new one

old-number : (v : ℤ) → T (between old_limit v) → T (in_sheet v)
old-number v t = abs-between limit v (abs-weaken (between-abs old_limit v t) tt)

old-point : (p : Point) → on_old_sheet p ≡ true → on_sheet p ≡ true
old-point p e =
    let h = and_yes (between old_limit p.x) (between old_limit p.y) (T_true e) in
    yes-T _ (yes_and (in_sheet p.x) (in_sheet p.y) (old-number p.x h.0) (old-number p.y h.1))

-- ---------------- what an old build was not refused for

module _ (ps t : List ℤ) (e : old_refusal ps t ≡ none) where
  -- no check of it holds
  clear : Clear (old_checks ps t)
  unfolding old_refusal
  clear = none-clear (old_checks ps t) e

  -- so every point is on the old sheet
  pub old-on : (i : ℕ) → i < points_of ps → on_old_sheet (point ps i) ≡ true
  old-on i h =
      not-false (on_old_sheet (point ps i))
      (none_has (λ i. not (on_old_sheet (point ps i))) (points_of ps) clear.1.1.1.0 i h)

  -- and all that the builder asks now holds
  pub old-buildable : Buildable ps t
  old-buildable =
      let c = clear in
      let later = c.1.1.1 in
      record {
        lengths = lengths_read LineA ps t (c.0 then c.1.0 then c.1.1.0 then later.1.1.0 then tt);
        on = λ i h. old-point (point ps i) (old-on i h);
        differ = none_has (equal_next ps) (segments_of ps) later.1.0;
      }

  -- so the old table is the new one
  pub old-same : old_table ps t ≡ built_table ps t
  unfolding old_table
  old-same =
      ap (λ r. unless_refused r (table_of ps ++ drop (row_numbers ps) t) t) e
      ∙ sym (built-whole ps t (none-refused ps t old-buildable))

-- ---------------- widening

module _ (old new : List ℤ) where
  -- as many numbers, or more, are lent: the old ones come first, and what stood past them
  pub widened-whole : widen_refusal old new ≡ none → widened old new ≡ old ++ drop (length old) new
  unfolding widened
  widened-whole e = rw e

  pub widened-room : widen_refusal old new ≡ none → length old ≤ length new
  unfolding widen_refusal
  widened-room e = ltb-false (length new) (length old) (none-clear (widen_check old new ∷ []) e).0

  pub room-widens : length old ≤ length new → widen_refusal old new ≡ none
  unfolding widen_refusal
  room-widens h = clear_none (widen_check old new ∷ []) (le-ltb (length new) (length old) h then tt)

-- into just as many numbers: points are widened so, and stay the points that they are
pub widened_same : (old new : List ℤ) → length new ≡ length old → widened old new ≡ old
widened_same old new e =
    widened-whole old new (room-widens old new (omega arith))
    ∙ ap (λ k. old ++ drop k new) (sym e) ∙ ap (λ l. old ++ l) (drop-length new) ∙ append-nil old

-- A table that the old rules let a builder write, widened, is what the builder writes for the same points into the same
-- numbers widened, and that build is not refused.
pub widened-built : (ps t new : List ℤ) → old_refusal ps t ≡ none → widen_refusal t new ≡ none
    → (build_refusal ps (widened t new) ≡ none) × (built_table ps (widened t new) ≡ widened (old_table ps t) new)
widened-built ps t new e r =
    let a = old-buildable ps t e in
    let u = widened t new in
    let k = row_numbers ps in
    let room = widened-room t new r in
    let whole = widened-whole t new r in
    let long : length t ≤ length u = rw whole (omega (arith, length-append t (drop (length t) new))) in
    let taken = none-refused ps u (buildable-longer long a) in
    let same = old-same ps t e in
    let many : length (old_table ps t) ≡ length t = ap length same ∙ built-length ps t in
    let wide = widened-whole (old_table ps t) new (room-widens (old_table ps t) new (omega arith)) in
    let old = same ∙ built-whole ps t (none-refused ps t a) in
    let rest = drop-append-le k t (drop (length t) new) a.lengths.table-long in (
      taken,
      built-whole ps u taken
          ∙ (λ i. table_of ps ++ (ap (drop k) whole ∙ rest) i)
          ∙ sym (append_assoc (table_of ps) (drop k t) (drop (length t) new))
          ∙ sym (wide ∙ (λ i. old i ++ drop (many i) new)),
    )
