-- What is put into the number that a walk comes to is read out of it, and a walk that stopped stays as it is.
use Rattle.std.specs.Prelude.{Option, Some, None}
use mathlib.Core.Path.{◌≡◌, refl, sym, ◌∙◌, ap}
use mathlib.Core.Bool.{Bool, true, false, cond}
use Prim.Native.Nat.{ℕ, zero, suc, ◌+◌, ◌-◌, ◌<◌, ◌≤◌}
use native.Mathlib.Omega.{arith}
use borrow.Author.Tests.{lt-ltb, le-ltb, ne_eqb, leb-false, leb-true}
use lib.Dec.{leb, ltb, eqb}
use Rattle.rules.specs.declared.Line.{Line}
use Rattle.rules.specs.declared.Tally.{Tally}
use Rattle.rules.specs.Tree.{most_rows}
use Rattle.rules.specs.Walk.{next, Walked, ended, over, spent, refused, go_on}
use Rattle.ending.specs.Ending.{half, packed, visits_in, end_in, ENDED, over_at, bad_row, bad_second, odd_in}
use Rattle.ending.specs.Ending.{refusal_at, refusal_in, tally_in, walked_in}

pub visits-in : (v e : ℕ) → e < half → visits_in (packed v e) ≡ v
visits-in v e small = omega arith

pub end-in : (v e : ℕ) → e < half → end_in (packed v e) ≡ e
end-in v e small = omega arith

-- ---------------- a visit that is counted gives the next tally, which keeps the allowance
pub next-counts : (y v : Tally) → next y ≡ Some v → v ≡ record { allowance = y.allowance; visits = y.visits + 1 }
next-counts y v = by (ltb y.visits y.allowance)
  where
    counted : Tally
    counted = record { allowance = y.allowance; visits = y.visits + 1 }

    of : Option Tally → Tally
    of (Some x) = x
    of None = counted

    by : (b : Bool) → cond b (Some counted) None ≡ Some v → v ≡ counted
    by true e = sym (ap of e)
    by false e = sym (ap of e)

pub keeps : (y v : Tally) → next y ≡ Some v → v.allowance ≡ y.allowance
keeps y v e = ap (λ (x : Tally). x.allowance) (next-counts y v e)

module _ {S : Type 0} (even odd : S) (l m : Line) (allowance : ℕ) where
  abbrev tally : ℕ → Tally
  tally v = record { allowance = allowance; visits = v }

  -- ---------------- what is read, by how it ended
  module _ (r : ℕ) where
    pub is-even : end_in r ≡ 0 → walked_in even odd l m allowance r ≡ over even (tally_in allowance r)
    unfolding walked_in
    is-even e = simp e

    pub is_odd : end_in r ≡ 1 → walked_in even odd l m allowance r ≡ over odd (tally_in allowance r)
    unfolding walked_in
    is_odd e = simp e

    pub is-over : end_in r < ENDED
        → walked_in even odd l m allowance r ≡ over (cond (odd_in r) odd even) (tally_in allowance r)
    is-over small = by (end_in r) refl
      where
        by : (k : ℕ) → end_in r ≡ k
            → walked_in even odd l m allowance r ≡ over (cond (eqb k 1) odd even) (tally_in allowance r)
        by zero e = is-even e
        by (suc zero) e = is_odd e
        by (suc (suc k)) e = absurd (omega arith)

    pub is-ended : end_in r ≡ 2 → walked_in even odd l m allowance r ≡ ended (tally_in allowance r)
    unfolding walked_in
    is-ended e = simp e

    pub is-spent : end_in r ≡ 3 → walked_in even odd l m allowance r ≡ spent
    unfolding walked_in
    is-spent e = simp e

    pub is-bad : bad_row ≤ end_in r → walked_in even odd l m allowance r ≡ refused (refusal_in l m r)
    unfolding walked_in
    is-bad big =
        let no : (k : ℕ) → k < bad_row → eqb (end_in r) k ≡ false = λ k h. ne_eqb (end_in r) k (λ q. omega arith) in
        simp (no 0 (omega arith), no 1 (omega arith), no 2 (omega arith), no 3 (omega arith))

  -- ---------------- what is read of what was put in
  pub reads-even : (v : ℕ) → walked_in even odd l m allowance (packed v 0) ≡ over even (tally v)
  reads-even v =
      is-even (packed v 0) (end-in v 0 (omega arith)) ∙ ap (λ k. over even (tally k)) (visits-in v 0 (omega arith))

  pub reads-odd : (v : ℕ) → walked_in even odd l m allowance (packed v 1) ≡ over odd (tally v)
  reads-odd v =
      is_odd (packed v 1) (end-in v 1 (omega arith)) ∙ ap (λ k. over odd (tally k)) (visits-in v 1 (omega arith))

  pub reads_over : (v : ℕ) (b : Bool)
      → walked_in even odd l m allowance (packed v (over_at b)) ≡ over (cond b odd even) (tally v)
  reads_over v true = reads-odd v
  reads_over v false = reads-even v

  pub reads-ended : (v : ℕ) → walked_in even odd l m allowance (packed v 2) ≡ ended (tally v)
  reads-ended v =
      is-ended (packed v 2) (end-in v 2 (omega arith)) ∙ ap (λ k. ended (tally k)) (visits-in v 2 (omega arith))

  pub reads-spent : (v : ℕ) → walked_in even odd l m allowance (packed v 3) ≡ spent
  reads-spent v = is-spent (packed v 3) (end-in v 3 (omega arith))

  reads-refused : (v end : ℕ) → bad_row ≤ end → end < half → walked_in even odd l m allowance (packed v end)
      ≡ refused (cond (ltb end bad_second) (refusal_at l (end - bad_row) v) (refusal_at m (end - bad_second) v))
  reads-refused v end big small =
      let e : end_in (packed v end) ≡ end = end-in v end small in
      let n : visits_in (packed v end) ≡ v = visits-in v end small in
      is-bad (packed v end) (omega (arith, e)) ∙ ap refused (simp (e, n))

  pub reads-bad : (v row : ℕ) → row < most_rows
      → walked_in even odd l m allowance (packed v (bad_row + row)) ≡ refused (refusal_at l row v)
  reads-bad v row small =
      let p : bad_row + row - bad_row ≡ row = omega arith in
      reads-refused v (bad_row + row) (omega arith) (omega arith)
      ∙ ap refused (simp (p, lt-ltb (bad_row + row) bad_second (omega arith)))

  pub reads-bad-second : (v row : ℕ) → row < most_rows
      → walked_in even odd l m allowance (packed v (bad_second + row)) ≡ refused (refusal_at m row v)
  reads-bad-second v row small =
      let p : bad_second + row - bad_second ≡ row = omega arith in
      reads-refused v (bad_second + row) (omega arith) (omega arith)
      ∙ ap refused (simp (p, le-ltb (bad_second + row) bad_second (omega arith)))

  -- ---------------- a walk that stopped stays as it is, and one that is over goes on with its count
  module _ (r : ℕ) (go : S → Tally → Walked S) where
    -- what is read, by the four tests
    abbrev by_tests : Bool → Bool → Bool → Bool → Walked S
    by_tests b c d e =
        cond b (over even (tally_in allowance r))
        (cond c (over odd (tally_in allowance r))
        (cond d (ended (tally_in allowance r)) (cond e spent (refused (refusal_in l m r)))))

    kept : (d e : Bool) → go_on (by_tests false false d e) go ≡ by_tests false false d e
    kept true e = refl
    kept false true = refl
    kept false false = refl

    pub stops : leb ENDED (end_in r) ≡ true
        → go_on (walked_in even odd l m allowance r) go ≡ walked_in even odd l m allowance r
    unfolding walked_in
    stops h =
        let big : ENDED ≤ end_in r = leb-true ENDED (end_in r) h in
        let b : eqb (end_in r) 0 ≡ false = ne_eqb (end_in r) 0 (λ q. omega arith) in
        let c : eqb (end_in r) 1 ≡ false = ne_eqb (end_in r) 1 (λ q. omega arith) in
        (λ i. go_on (by_tests (b i) (c i) (eqb (end_in r) 2) (eqb (end_in r) 3)) go)
        ∙ kept (eqb (end_in r) 2) (eqb (end_in r) 3)
        ∙ sym (λ i. by_tests (b i) (c i) (eqb (end_in r) 2) (eqb (end_in r) 3))

    pub goes : leb ENDED (end_in r) ≡ false
        → go_on (walked_in even odd l m allowance r) go ≡ go (cond (odd_in r) odd even) (tally_in allowance r)
    goes h = ap (λ (w : Walked S). go_on w go) (is-over r (leb-false ENDED (end_in r) h))
