-- The row rules of refusal 10 in the order in which the code asks them.
use mathlib.Core.Path.{◌≡◌, refl, sym, ◌∙◌}
use mathlib.Core.Bool.{Bool, true, false, not, cond, ◌&&◌, and_assoc, and-true, and-false}
use mathlib.Core.List.{List}
use Prim.Native.Nat.{ℕ}
use lib.Dec.{T}
use lib.IntN.{ℤ, pos, neg_ℤ}
use lib.Signed.{le_z, ◌≤ℤ◌}
use Rattle.integers.specs.Order.{yes-T, ≤ℤ-trans, le-true, le_yes}
use Rattle.rules.specs.declared.Row.{Row}
use Rattle.rules.specs.Plane.{eq_z, same_point}
use Rattle.rules.specs.Sheet.{point, on_sheet, between, limit}
use Rattle.rules.specs.Tree.{no_split, is_leaf}
use Rattle.rules.specs.Rows.{range_good, side_good, strip_good, box_good, ends_good, good}
use Rattle.row.specs.Parts.{frame_good, leaf_fits, split_fits}

-- a low side is not above the sheet where the high side is not, nor the high side below it
abbrev low : ℤ
low = neg_ℤ (pos limit)

abbrev high : ℤ
high = pos limit

pub three_suffice : (lo hi : ℤ) → le_z low lo && le_z lo hi && le_z hi high ≡ side_good lo hi
unfolding between
three_suffice lo hi = by (le_z low lo) refl (le_z lo hi) refl (le_z hi high) refl
  where
    by : (l : Bool) → le_z low lo ≡ l → (m : Bool) → le_z lo hi ≡ m → (h : Bool) → le_z hi high ≡ h
        → l && m && h ≡ m && (l && le_z lo high) && (le_z low hi && h)
    by true e true f true g =
        let below : low ≤ℤ lo = le_yes refl refl e in
        let mid : lo ≤ℤ hi = le_yes refl refl f in
        let above : hi ≤ℤ high = le_yes refl refl g in
        simp (le-true (≤ℤ-trans mid above), le-true (≤ℤ-trans below mid))
    by l e m f false g = simp and-false
    by l e false f true g = simp and-false
    by false e true f true g = refl

-- what is asked of a leaf, and of a node of more segments
abbrev pub last_rule : List ℤ → Row → ℕ → ℕ → Bool
last_rule ps r first last =
    cond (is_leaf first last) (leaf_fits r (point ps first) (point ps last)) (split_fits r first last)

pub good-parts : (ps : List ℤ) (r : Row) (first last : ℕ) →
    good ps r first last
    ≡ range_good r first last
    && (strip_good r
    && (box_good r && (on_sheet (point ps first) && (on_sheet (point ps last) && last_rule ps r first last))))
unfolding good
good-parts ps r first last =
    regroup (is_leaf first last) (range_good r first last) (eq_z r.split no_split) (split_fits r first last) (strip_good r)
    (box_good r) (on_sheet (point ps first)) (on_sheet (point ps last)) (same_point (point ps first) (point ps last))
  where
    regroup : (leaf a none inside b c d e same : Bool) →
        a && cond leaf none inside && b && c && (d && e) && not (leaf && same)
        ≡ a && (b && (c && (d && (e && cond leaf (none && not same) inside))))
    regroup true a true inside b c d e same = simp (and_assoc, and-true)
    regroup true a false inside b c d e same = simp (and_assoc, and-false)
    regroup false a none true b c d e same = simp (and_assoc, and-true)
    regroup false a none false b c d e same = simp (and_assoc, and-false)

-- a node that begins or ends off the sheet has no good row; of one that does neither, frame and last rule are asked
module _ (ps : List ℤ) (r : Row) (first last : ℕ) where
  abbrev asked : Bool → Bool → Bool
  asked start end =
      range_good r first last && (strip_good r && (box_good r && (start && (end && last_rule ps r first last))))

  pub start_off : on_sheet (point ps first) ≡ false → good ps r first last ≡ false
  start_off e = good-parts ps r first last ∙ (λ i. asked (e i) (on_sheet (point ps last))) ∙ simp and-false

  pub end-off : on_sheet (point ps last) ≡ false → good ps r first last ≡ false
  end-off e = good-parts ps r first last ∙ (λ i. asked (on_sheet (point ps first)) (e i)) ∙ simp and-false

  pub ends-off : ends_good ps first last ≡ false → good ps r first last ≡ false
  ends-off e = by (on_sheet (point ps first)) refl
    where
      by : (on : Bool) → on_sheet (point ps first) ≡ on → good ps r first last ≡ false
      by true h = end-off (sym (λ d. h d && on_sheet (point ps last)) ∙ e)
      by false h = start_off h

  pub between-parts : T (on_sheet (point ps first)) → T (on_sheet (point ps last))
      → good ps r first last ≡ frame_good r first last && last_rule ps r first last
  between-parts h k =
      let e = yes-T (on_sheet (point ps first)) h in
      let f = yes-T (on_sheet (point ps last)) k in
      good-parts ps r first last ∙ (λ i. asked (e i) (f i)) ∙ sym (simp and_assoc)
