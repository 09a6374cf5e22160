-- Numbers past the 2n - 1 rows are not looked at.
use mathlib.Core.Path.{◌≡◌, refl, sym, ◌∙◌}
use mathlib.Core.Bool.{false, cond}
use mathlib.Core.List.{List, [], ◌∷◌, ◌++◌}
use mathlib.Core.Logic.{⊎_elim}
use mathlib.Core.Option.{Option, none}
use Prim.Native.Nat.{ℕ, zero, suc, ◌+◌, ◌*◌, ◌≤◌, ◌<◌}
use native.Mathlib.Omega.{arith}
use borrow.Author.Tests.{le-leb, le-ltb}
use lib.Dec.{ltb}
use lib.IntN.{ℤ, pos}
use lib.ListN.{length, length-append, get_or-append}
use Rattle.integers.specs.Laws.{option-ind}
use Rattle.rules.specs.declared.Line.TheVariants.{LineA}
use Rattle.rules.specs.declared.Node.{Node}
use Rattle.rules.specs.declared.Refusal.{Refusal}
use Rattle.rules.specs.declared.Row.{Row}
use Rattle.rules.specs.Sheet.{segments_of}
use Rattle.rules.specs.Tree.{width, number_at, row_at, row_count}
use Rattle.rules.specs.Reply.{first_refusal, or_else}
use Rattle.rules.specs.Rows.{point_checks}
use Rattle.rules.specs.Questions.{root, leaf, left_of, right_of, split_in}
use Rattle.rules.specs.Build.{sheet_check, neighbour_check, build_refusal}
use Rattle.rules.specs.Check.{read_from, row_fault, fault_from, table_fault, check_refusal}
use Rattle.visits.specs.Nodes.{Fits}
use Rattle.visits.proofs.Nodes.{good-inner, root-fits, fits-row, fits-left, fits-right}
use Rattle.table_truth.specs.Buildable.{row_numbers}
use Rattle.table_truth.proofs.Refusals.{buildable, some-segment}
use Rattle.table_truth.proofs.Rows.{leaf-or-inner}
use Rattle.checked.proofs.Sound.{none-fine}

module _ (ps t rest : List ℤ) (long : row_numbers ps ≤ length t) where
  row_same : (r : ℕ) → r < row_count (segments_of ps) → row_at (t ++ rest) r ≡ row_at t r
  unfolding row_at
  row_same r l i = record {
    first = same 0 (omega arith) i;
    last = same 1 (omega arith) i;
    split = same 2 (omega arith) i;
    cmin = same 3 (omega arith) i;
    cmax = same 4 (omega arith) i;
    tmin = same 5 (omega arith) i;
    tmax = same 6 (omega arith) i;
    xmin = same 7 (omega arith) i;
    xmax = same 8 (omega arith) i;
    ymin = same 9 (omega arith) i;
    ymax = same 10 (omega arith) i;
  }
    where
      same : (k : ℕ) → k < width → number_at (t ++ rest) r k ≡ number_at t r k
      same k h = get_or-append t rest (pos 0) (width * r + k) (omega arith)

  abbrev more : List ℤ
  more = t ++ rest

  fault-same : (f : ℕ) (n : Node) → Fits (row_count (segments_of ps)) n
      → fault_from (read_from more) f ps n ≡ fault_from (read_from t) f ps n
  unfolding fault_from
  fault-same zero n h = refl
  fault-same (suc f) n h =
      let e = row_same n.row (fits-row h) in
      let r = row_at t n.row in
      (λ i. or_else (row_fault ps (e i) n) (cond (leaf n) none (halves more f (e i))))
      ∙ option-ind
      (λ o. or_else o (cond (leaf n) none (halves more f r)) ≡ or_else o (cond (leaf n) none (halves t f r)))
      (row_fault ps r n)
      (λ none_told.
      ⊎_elim (λ l. rw (le-leb n.last (n.first + 1) l))
      (λ l.
      let s = good-inner ps t n (none-fine ps r n none_told).0 l in
      let left = fault-same f (left_of n (split_in r)) (fits-left h s) in
      let right = fault-same f (right_of n (split_in r)) (fits-right h s) in
      λ i. cond (leaf n) none (or_else (left i) (right i)))
      (leaf-or-inner n.first n.last))
      (λ _ _. refl)
    where
      halves : List ℤ → ℕ → Row → Option Refusal
      halves u g row =
          or_else (fault_from (read_from u) g ps (left_of n (split_in row)))
          (fault_from (read_from u) g ps (right_of n (split_in row)))

  short : (u : List ℤ) → row_numbers ps ≤ length u → ltb (length u) (row_numbers ps) ≡ false
  short u h = le-ltb (length u) (row_numbers ps) h

  built-same : build_refusal ps more ≡ build_refusal ps t
  unfolding build_refusal
  built-same =
      let e = short more (rw (length-append t rest) (omega arith)) ∙ sym (short t long) in
      λ i. first_refusal (point_checks LineA ps ++ sheet_check ps ∷ neighbour_check ps
      ∷ record { holds = e i; number = 6; line = LineA; place = 0 } ∷ [])

  -- what stands past the rows changes nothing
  pub rest-ignored : check_refusal ps more ≡ check_refusal ps t
  unfolding check_refusal table_fault
  rest-ignored =
      (λ i. or_else (built-same i) (table_fault ps more))
      ∙ option-ind (λ o. or_else o (table_fault ps more) ≡ or_else o (table_fault ps t)) (build_refusal ps t)
      (λ e. fault-same (segments_of ps) (root ps) (root-fits ps (some-segment (buildable ps t e))))
      (λ _ _. refl)
