-- Points asked one after another: how the asking of one reads, one point, then the others where it is near.
use Rattle.std.specs.Prelude.{Option, Some, None}
use mathlib.Core.Path.{◌≡◌, refl, sym, ◌∙◌, ap}
use mathlib.Core.Bool.{Bool, true, false, cond}
use mathlib.Core.List.{List}
use Prim.Native.Nat.{ℕ, suc, ◌+◌, ◌-◌, ◌<◌, ◌≤◌}
use native.Mathlib.Omega.{arith}
use borrow.Author.Tests.{ltb-true, ltb-false, eq-eqb, ne_eqb, eqb-true, eqb-false}
use lib.Dec.{ltb, eqb}
use lib.IntN.{ℤ}
use Rattle.rules.specs.declared.Line.{Line}
use Rattle.rules.specs.declared.Line.TheVariants.{LineA, LineB}
use Rattle.rules.specs.declared.Tally.{Tally}
use Rattle.rules.specs.Sheet.{point, on_sheet}
use Rattle.rules.specs.Walk.{Walked, ended, over, spent, refused}
use Rattle.rules.specs.Questions.{Nothing, near_walk, Asked, all_near, not_near, unasked, faulted, on_near, ask_all}
use Rattle.rules.specs.Questions.{on_all_near}
use Rattle.ending.specs.Ending.{packed, visits_in, end_in, SPENT, bad_row, bad_second, refusal_at, refusal_in}
use Rattle.ending.specs.Ending.{tally_in, due, walked_in}
use Rattle.ending.proofs.Ends.{visits-in, end-in, is-even, is_odd, is-ended, is-spent, is-bad}
use Rattle.agree_walk.specs.Asking.{OFF, off_sheet, asked}

-- ---------------- how the asking of point i ended
module _ (line other : Line) (i allowance : ℕ) where
  module _ (r : ℕ) where
    pub is-off : end_in r ≡ OFF → asked line other i allowance r ≡ faulted (off_sheet line i (visits_in r))
    unfolding asked
    is-off e =
        (λ j. cond (eq-eqb (end_in r) OFF e j) (faulted (off_sheet line i (visits_in r)))
        (on_near line i (walked_in tt tt other other allowance r) all_near))

    -- what is not off the sheet is as its walk came to its end
    pub heard : {w : Walked Nothing} → (end_in r ≡ OFF → ⊥) → walked_in tt tt other other allowance r ≡ w
        → asked line other i allowance r ≡ on_near line i w all_near
    unfolding asked
    heard ne e =
        (λ j. cond (ne_eqb (end_in r) OFF ne j) (faulted (off_sheet line i (visits_in r)))
        (on_near line i (e j) all_near))

    pub is-near : end_in r ≡ 2 → asked line other i allowance r ≡ all_near (tally_in allowance r)
    is-near e = heard (λ q. omega arith) (is-ended tt tt other other allowance r e)

    pub is-not-near : end_in r < 2 → asked line other i allowance r ≡ not_near line i (tally_in allowance r)
    is-not-near small = by (eqb (end_in r) 0) refl
      where
        by : (b : Bool) → eqb (end_in r) 0 ≡ b → asked line other i allowance r ≡ not_near line i (tally_in allowance r)
        by true e = heard (λ q. omega arith) (is-even tt tt other other allowance r (eqb-true (end_in r) 0 e))
        by false e =
            let some = eqb-false (end_in r) 0 e in
            heard (λ q. omega arith) (is_odd tt tt other other allowance r (omega (arith, some)))

    pub is-unasked : end_in r ≡ 3 → asked line other i allowance r ≡ unasked
    is-unasked e = heard (λ q. omega arith) (is-spent tt tt other other allowance r e)

    pub is-refused : bad_row ≤ end_in r → (end_in r ≡ OFF → ⊥)
        → asked line other i allowance r ≡ faulted (refusal_in other other r)
    is-refused big ne = heard ne (is-bad tt tt other other allowance r big)

    -- what is not near stays as it is: by the five tests
    abbrev by_tests : Bool → Bool → Bool → Bool → Bool → Asked
    by_tests b c d e f =
        cond f (faulted (off_sheet line i (visits_in r)))
        (on_near line i
        (cond b (over tt (tally_in allowance r))
        (cond c (over tt (tally_in allowance r))
        (cond d (ended (tally_in allowance r)) (cond e spent (refused (refusal_in other other r))))))
        all_near)

    module _ (go : Tally → Asked) where
      kept : (b c e f : Bool) → by_tests b c false e f ≡ on_all_near (by_tests b c false e f) go
      kept b c e true = refl
      kept true c e false = refl
      kept false true e false = refl
      kept false false true false = refl
      kept false false false false = refl

      pub stops : (end_in r ≡ 2 → ⊥) → asked line other i allowance r ≡ on_all_near (asked line other i allowance r) go
      unfolding asked walked_in
      stops ne =
          let n : eqb (end_in r) 2 ≡ false = ne_eqb (end_in r) 2 ne in
          (λ j. by_tests (eqb (end_in r) 0) (eqb (end_in r) 1) (n j) (eqb (end_in r) 3) (eqb (end_in r) OFF))
          ∙ kept (eqb (end_in r) 0) (eqb (end_in r) 1) (eqb (end_in r) 3) (eqb (end_in r) OFF)
          ∙ sym (λ j. on_all_near (by_tests (eqb (end_in r) 0) (eqb (end_in r) 1) (n j) (eqb (end_in r) 3)
          (eqb (end_in r) OFF)) go)

  pub reads-off : (v : ℕ) → asked line other i allowance (packed v OFF) ≡ faulted (off_sheet line i v)
  reads-off v =
      is-off (packed v OFF) (end-in v OFF (omega arith))
      ∙ ap (λ k. faulted (off_sheet line i k)) (visits-in v OFF (omega arith))

-- the walk of a line whose root has a bad row ends there, or for want of a visit
pub root-end : (x : Option Tally) → (SPENT ≤ end_in (due x bad_row)) × (end_in (due x bad_row) ≤ bad_row)
root-end (Some v) = let e = end-in v.visits bad_row (omega arith) in (omega (arith, e), omega (arith, e))
root-end None = (omega arith, omega arith)

-- a walk that says the same whatever the second line is called met no bad row of a second line
pub one_line : (l : Line) (allowance r : ℕ) {w : Walked Nothing} → ((m : Line) → walked_in tt tt l m allowance r ≡ w)
    → end_in r < bad_second
one_line l allowance r {w} h = by (ltb (end_in r) bad_second) refl
  where
    line_of : Walked Nothing → Line
    line_of (ended y) = l
    line_of (over k y) = l
    line_of spent = l
    line_of (refused f) = f.line

    by : (b : Bool) → ltb (end_in r) bad_second ≡ b → end_in r < bad_second
    by true e = ltb-true (end_in r) bad_second e
    by false e =
        let big : bad_second ≤ end_in r = ltb-false (end_in r) bad_second e in
        let at : (m : Line) → m ≡ line_of w =
        (λ m. sym (λ j. (cond (e j) (refusal_at l (end_in r - bad_row) (visits_in r))
        (refusal_at m (end_in r - bad_second) (visits_in r))).line)
        ∙ sym (ap line_of (is-bad tt tt l m allowance r (omega arith))) ∙ ap line_of (h m)) in
        let same : LineA ≡ LineB = at LineA ∙ sym (at LineB) in
        let z : ◌≡◌ {A = ℕ} 0 1 = cc in
        omega arith

-- after a point's walk: nothing more to ask, and then the rest
near-then : (l : Line) (i : ℕ) (w : Walked Nothing) (go : Tally → Asked)
    → on_near l i w go ≡ on_all_near (on_near l i w all_near) go
near-then l i (ended y) go = refl
near-then l i (over k y) go = refl
near-then l i spent go = refl
near-then l i (refused r) go = refl

module _ (l : Line) (ps : List ℤ) (m : Line) (qs t : List ℤ) (D : ℤ) where
  abbrev asks : ℕ → ℕ → Tally → Asked
  asks i k y = ask_all l ps m qs t D i k y

  -- one point
  pub one-point : (i : ℕ) (y : Tally) {s : Bool} → on_sheet (point ps i) ≡ s
      → cond s (on_near l i (near_walk m qs t (point ps i) D y) all_near) (faulted (off_sheet l i y.visits))
      ≡ asks i 1 y
  unfolding ask_all
  one-point i y e =
      sym (λ j. cond (e j) (on_near l i (near_walk m qs t (point ps i) D y) all_near)
      (faulted (off_sheet l i y.visits)))

  -- a point, and then the others
  point-then : (i k : ℕ) (y : Tally) → asks i (suc k) y ≡ on_all_near (asks i 1 y) (asks (suc i) k)
  unfolding ask_all
  point-then i k y = go (on_sheet (point ps i)) (near_walk m qs t (point ps i) D y)
    where
      go : (b : Bool) (w : Walked Nothing)
          → cond b (on_near l i w (asks (suc i) k)) (faulted (off_sheet l i y.visits))
          ≡ on_all_near (cond b (on_near l i w all_near) (faulted (off_sheet l i y.visits))) (asks (suc i) k)
      go true w = near-then l i w (asks (suc i) k)
      go false w = refl

  -- of the points up to count, point i and then those from i + 1 on
  next-point : (count i : ℕ) (y : Tally) → i < count
      → asks i (count - i) y ≡ on_all_near (asks i 1 y) (asks (i + 1) (count - (i + 1)))
  next-point count i y h =
      (λ j. asks i (more j) y) ∙ point-then i (count - (i + 1)) y
      ∙ (λ j. on_all_near (asks i 1 y) (asks (along j) (count - (i + 1))))
    where
      more : count - i ≡ suc (count - (i + 1))
      more = omega arith

      along : suc i ≡ i + 1
      along = omega arith

  -- point i is asked: with those after it, it comes to what they all come to
  pub point-asked : (count i : ℕ) (y : Tally) {a all : Asked} → i < count → a ≡ asks i 1 y → asks i (count - i) y ≡ all
      → on_all_near a (asks (i + 1) (count - (i + 1))) ≡ all
  point-asked count i y h is e =
      ap (λ (x : Asked). on_all_near x (asks (i + 1) (count - (i + 1)))) is ∙ sym (next-point count i y h) ∙ e

  -- the first point is not near: it is what they all come to
  pub first_stops : (allowance count r : ℕ) (y : Tally) → 1 ≤ count → (end_in r ≡ 2 → ⊥)
      → asked l m 0 allowance r ≡ asks 0 1 y → asked l m 0 allowance r ≡ asks 0 count y
  first_stops allowance count r y some ne e =
      stops l m 0 allowance r (asks 1 (count - 1)) ne
      ∙ ap (λ (x : Asked). on_all_near x (asks 1 (count - 1))) e
      ∙ sym (next-point count 0 y some)
      ∙ (λ j. asks 0 (all j) y)
    where
      all : count - 0 ≡ count
      all = omega arith

  -- no point is left
  pub no-point : (i k : ℕ) (y : Tally) → k ≡ 0 → all_near y ≡ asks i k y
  unfolding ask_all
  no-point i k y e = sym (ap (λ (n : ℕ). asks i n y) e)
