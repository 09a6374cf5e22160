-- What stands in a lent table after a build: refused, what stood there; else the described rows, and past them what
-- stood there.
use mathlib.Core.Path.{◌≡◌, sym, ap, ◌∙◌}
use mathlib.Core.List.{List, ◌++◌}
use mathlib.Core.Option.{none, some}
use Prim.Native.Nat.{ℕ, ◌*◌, ◌≤◌}
use native.Mathlib.Nat.{sub-zero}
use native.Mathlib.Omega.{arith}
use lib.IntN.{ℤ}
use lib.ListN.{length, take, drop, length-append, length-drop}
use lib.Seq.{take_at, drop_at}
use Rattle.integers.specs.Laws.{option-ind}
use Rattle.rules.specs.declared.Refusal.{Refusal}
use Rattle.rules.specs.Sheet.{points_of, segments_of, fewest}
use Rattle.rules.specs.Tree.{width, row_count}
use Rattle.rules.specs.Build.{build_refusal, table_of, built_table}
use Rattle.table_truth.specs.Buildable.{row_numbers, Buildable}
use Rattle.table_truth.proofs.Rows.{count-rows}
use Rattle.table_truth.proofs.Refusals.{buildable, none-refused}

-- a line's table has 2n - 1 rows
pub table-length : (ps : List ℤ) → fewest ≤ points_of ps → length (table_of ps) ≡ row_numbers ps
unfolding table_of
table-length ps h =
    count-rows (segments_of ps) ps 0 (segments_of ps) (omega arith) (omega arith)
    ∙ ap (λ (n : ℕ). width * row_count n) (sub-zero (segments_of ps))

module _ (ps t : List ℤ) where
  -- building refused writes nothing
  pub built-refused : (r : Refusal) → build_refusal ps t ≡ some r → built_table ps t ≡ t
  unfolding built_table
  built-refused r e = rw e

  -- else the rows of the line, and what stood past them
  pub built-whole : build_refusal ps t ≡ none → built_table ps t ≡ table_of ps ++ drop (row_numbers ps) t
  unfolding built_table
  built-whole e = rw e

  whole_length : build_refusal ps t ≡ none → length (table_of ps) ≡ row_numbers ps
  whole_length e = table-length ps (buildable ps t e).lengths.some-points

  pub built-rows : build_refusal ps t ≡ none → take (row_numbers ps) (built_table ps t) ≡ table_of ps
  built-rows e = rw (built-whole e) (take_at (table_of ps) (drop (row_numbers ps) t) (row_numbers ps) (whole_length e))

  by-refusal : {A : Type 0} → (build_refusal ps t ≡ none → A) → ((r : Refusal) → build_refusal ps t ≡ some r → A) → A
  by-refusal {A} f g = option-ind (λ _. A) (build_refusal ps t) f g

  -- numbers past the rows stay unchanged
  pub built-rest : drop (row_numbers ps) (built_table ps t) ≡ drop (row_numbers ps) t
  built-rest =
      by-refusal
      (λ e. rw (built-whole e) (drop_at (table_of ps) (drop (row_numbers ps) t) (row_numbers ps) (whole_length e)))
      (λ r e. ap (drop (row_numbers ps)) (built-refused r e))

  pub built-length : length (built_table ps t) ≡ length t
  built-length =
      by-refusal
      (λ e.
      rw (built-whole e, length-append, length-drop, whole_length e)
      (omega (arith, (buildable ps t e).lengths.table-long)))
      (λ r e. ap length (built-refused r e))

-- ---------------- building again

-- of a table only its length matters
pub buildable-longer : {ps t u : List ℤ} → length t ≤ length u → Buildable ps t → Buildable ps u
buildable-longer h a =
    let l = a.lengths in record {
      lengths = record {
        even = l.even;
        some-points = l.some-points;
        not_more = l.not_more;
        table-long = omega (arith, l.table-long);
      };
      on = a.on;
      differ = a.differ;
    }

-- a line can be built again into the table built from it
pub built-buildable : (ps t : List ℤ) → build_refusal ps t ≡ none → Buildable ps (built_table ps t)
built-buildable ps t e = buildable-longer (omega (arith, built-length ps t)) (buildable ps t e)

-- building again changes nothing
pub built-twice : (ps t : List ℤ) → built_table ps (built_table ps t) ≡ built_table ps t
built-twice ps t =
    by-refusal ps t
    (λ e.
    built-whole ps (built_table ps t) (none-refused ps (built_table ps t) (built-buildable ps t e))
    ∙ ap (table_of ps ++◌) (built-rest ps t) ∙ sym (built-whole ps t e))
    (λ r e. ap (built_table ps) (built-refused ps t r e))
