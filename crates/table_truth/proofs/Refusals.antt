-- Building refuses nothing exactly when a line can be built into a table; and the place of refusals 4 and 5 is the
-- lowest point that is at fault.
use mathlib.Core.Path.{◌≡◌, ap, ◌∙◌}
use mathlib.Core.Bool.{Bool, true, false, not, cond}
use mathlib.Core.List.{List}
use mathlib.Core.Option.{none}
use mathlib.Core.Logic.{⊎_elim}
use Prim.Native.Nat.{ℕ, zero, suc, ◌≤◌, ◌<◌}
use native.Mathlib.Decide.{ℕ_discrete}
use native.Mathlib.Nat.{le_antisymm}
use native.Mathlib.Omega.{arith}
use borrow.Author.Tests.{ltb-false, le-ltb, not-false}
use lib.Dec.{ltb}
use lib.IntN.{ℤ}
use Rattle.integers.specs.Laws.{test-ind}
use Rattle.rules.specs.declared.Line.TheVariants.{LineA}
use Rattle.rules.specs.Sheet.{point, points_of, segments_of, on_sheet}
use Rattle.rules.specs.Build.{lowest, off_sheet, equal_next, build_checks, build_refusal}
use Rattle.visits.proofs.Tests.{never}
use Rattle.table_truth.specs.Lowest.{Lowest}
use Rattle.visits.proofs.Checks.{◌then◌, none-clear, clear_none, lengths_read, lengths-clear}
use Rattle.table_truth.specs.Buildable.{Buildable}
use Rattle.table_truth.proofs.Rows.{≤-or->}

-- ---------------- the lowest number that has p

pub lowest-is : (p : ℕ → Bool) (i k : ℕ) → Lowest p i k (lowest p i k)
unfolding lowest
lowest-is p i zero = record {
  from = omega arith;
  upto = omega arith;
  before = λ j h l. absurd (omega arith);
  found = λ h. absurd (omega arith);
}
lowest-is p i (suc k) =
    let ih = lowest-is p (suc i) k in
    test-ind (λ b. Lowest p i (suc k) (cond b i (lowest p (suc i) k))) (p i)
    (λ e. record { from = omega arith; upto = omega arith; before = λ j h l. absurd (omega arith); found = λ _. e })
    (λ e. record {
      from = omega (arith, ih.from);
      upto = omega (arith, ih.upto);
      before = λ j h l. elim (ℕ_discrete j i) [ yes q ↦ ap p q ∙ e | no q ↦ ih.before j (omega arith) l ];
      found = λ h. ih.found (omega arith);
    })

-- there is one lowest
pub lowest-unique : (p : ℕ → Bool) (i k m n : ℕ) → Lowest p i k m → Lowest p i k n → m ≡ n
lowest-unique p i k m n a b = le_antisymm (at_most a b) (at_most b a)
  where
    at_most : {m n : ℕ} → Lowest p i k m → Lowest p i k n → m ≤ n
    at_most {m} {n} a b =
        ⊎_elim (λ h. h)
        (λ h. let x = b.found (omega (arith, a.upto)) in let y = a.before n b.from h in never (cc)) (≤-or-> m n)

-- ---------------- building

-- the lowest number that has p is none of the k
pub none_has : (p : ℕ → Bool) (k : ℕ) → ltb (lowest p 0 k) k ≡ false → (j : ℕ) → j < k → p j ≡ false
none_has p k e j h = (lowest-is p 0 k).before j (omega arith) (omega (arith, ltb-false (lowest p 0 k) k e))

pub has-none : (p : ℕ → Bool) (k : ℕ) → ((j : ℕ) → j < k → p j ≡ false) → ltb (lowest p 0 k) k ≡ false
has-none p k h =
    let n = lowest p 0 k in
    le-ltb n k
    (⊎_elim (λ l. l) (λ l. let x = (lowest-is p 0 k).found (omega arith) in let y = h n l in never (cc)) (≤-or-> k n))

-- building refuses nothing exactly where the line can be built into the table
module _ (ps t : List ℤ) where
  pub buildable : build_refusal ps t ≡ none → Buildable ps t
  unfolding build_refusal
  buildable e =
      let c = none-clear (build_checks ps t) e in
      let later = c.1.1.1 in
      record {
        lengths = lengths_read LineA ps t (c.0 then c.1.0 then c.1.1.0 then later.1.1.0 then tt);
        on = λ i h. not-false (on_sheet (point ps i)) (none_has (off_sheet ps) (points_of ps) later.0 i h);
        differ = none_has (equal_next ps) (segments_of ps) later.1.0;
      }

  pub none-refused : Buildable ps t → build_refusal ps t ≡ none
  unfolding build_refusal
  none-refused a =
      let c = lengths-clear LineA ps t a.lengths in
      clear_none (build_checks ps t)
      (c.0
      then c.1.0
      then c.1.1.0
      then has-none (off_sheet ps) (points_of ps) (λ i h. ap not (a.on i h))
      then has-none (equal_next ps) (segments_of ps) a.differ
      then c.1.1.1.0
      then tt)

-- the points of a buildable line, by its segments
pub points_on : {ps t : List ℤ} → Buildable ps t → (i : ℕ) → i ≤ segments_of ps → on_sheet (point ps i) ≡ true
points_on a i h = a.on i (omega (arith, a.lengths.some-points))

pub some-segment : {ps t : List ℤ} → Buildable ps t → 0 < segments_of ps
some-segment a = omega (arith, a.lengths.some-points)
