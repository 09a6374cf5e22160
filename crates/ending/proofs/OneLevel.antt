-- One level of a walk, whatever one visit does: what the code hands back as a number tells what the written walk comes
-- to. A visit ends the walk at its node, or halves it: then the left half stops the walk, or the right half goes on
-- with the count and the visits of the left.
use Rattle.std.specs.Prelude.{Some, None}
use mathlib.Core.Path.{◌≡◌, refl, sym, ◌∙◌, ap}
use mathlib.Core.Bool.{Bool, true, false, cond}
use Prim.Native.Nat.{ℕ, pred, ◌+◌, ◌<◌}
use native.Mathlib.Omega.{arith}
use lib.Dec.{leb}
use Rattle.rules.specs.declared.Line.{Line}
use Rattle.rules.specs.declared.Tally.{Tally}
use Rattle.rules.specs.Tree.{most_rows}
use Rattle.rules.specs.Walk.{next, Visit, refuse, finish, pass, halve, Walked, over, go_on, on_step, walk}
use Rattle.visits.proofs.Levels.{visited, halved}
use Rattle.visits.proofs.Levels.{none_left as spent-here}
use Rattle.ending.specs.Ending.{packed, end_in, ENDED, SPENT, bad_row, bad_second, over_at, odd_in, tally_in, due}
use Rattle.ending.specs.Ending.{walked_in}
use Rattle.ending.proofs.Ends.{keeps, reads_over, reads-ended, reads-spent, reads-bad, stops, goes}
use Rattle.ending.proofs.Dues.{due-stops, reads-bad-due, reads-second-due}

-- what the walk is at: the counts that even and odd stand for, the lines whose rows can be bad, what a visit of a node
-- does, the node, the count and the tally so far, and the levels that are left
pub record Level (S N : Type 0) : Type 0 where
  pub even : S
  pub odd : S
  pub first : Line
  pub second : Line
  pub does : N → Visit S N
  pub node : N
  pub count : S
  pub tally : Tally
  pub levels : ℕ
  pub some_level : 0 < levels

module _ {S N : Type 0} (v : Level S N) where
  -- what a number says by the allowance of a tally
  abbrev pub says : Tally → ℕ → Walked S
  says y r = walked_in v.even v.odd v.first v.second y.allowance r

  -- the written walk from the node, and from one of its halves
  abbrev pub whole : Walked S
  whole = walk v.does v.levels v.node v.count v.tally

  abbrev pub below : N → S → Tally → Walked S
  below n s y = walk v.does (pred v.levels) n s y

  -- ---------------- a visit is due and none is left
  pub none_left : {r : ℕ} → next v.tally ≡ None → r ≡ packed 0 SPENT → says v.tally r ≡ whole
  none_left e is =
      ap (says v.tally) is
      ∙ reads-spent _ _ _ _ v.tally.allowance 0
      ∙ spent-here v.does v.node v.count v.tally v.levels v.some_level e

  -- ---------------- a visit is made; the next tally keeps the allowance
  module _ {counted : Tally} (made : next v.tally ≡ Some counted) where
    pub same : (r : ℕ) → says v.tally r ≡ says counted r
    same r =
        ap (λ (k : ℕ). walked_in v.even v.odd v.first v.second k r) (sym (keeps v.tally counted made))

    -- the visit halves nothing: what it does is what the number says
    ends-here : {r k : ℕ} {w : Visit S N} → r ≡ k → w ≡ v.does v.node
        → says counted k
        ≡ on_step w v.count counted (λ l r. go_on (below l v.count counted) (λ s y. below r s y))
        → says v.tally r ≡ whole
    ends-here {r} is e told =
        same r
        ∙ ap (says counted) is
        ∙ told
        ∙ visited v.does v.node v.count v.tally v.levels v.some_level made e

    pub yes-here : {r : ℕ} → r ≡ packed counted.visits ENDED → finish ≡ v.does v.node → says v.tally r ≡ whole
    yes-here is e = ends-here is e (reads-ended _ _ _ _ counted.allowance counted.visits)

    pub over-here : {r : ℕ} (odd : Bool) {g : S → S} → r ≡ packed counted.visits (over_at odd)
        → cond odd v.odd v.even ≡ g v.count → pass g ≡ v.does v.node → says v.tally r ≡ whole
    over-here odd is counts e =
        ends-here is e
        (reads_over _ _ _ _ counted.allowance counted.visits odd ∙ ap (λ (s : S). over s counted) counts)

    pub bad-here : {r row : ℕ} → r ≡ packed counted.visits (bad_row + row) → row < most_rows
        → refuse 10 v.first row ≡ v.does v.node → says v.tally r ≡ whole
    bad-here {row} is small e = ends-here is e (reads-bad _ _ _ _ counted.allowance counted.visits row small)

    -- ---------------- the visit halves the node
    module _ {l r : N} (halves : halve l r ≡ v.does v.node) where
      after-left : {w : Walked S} → w ≡ below l v.count counted → go_on w (λ s y. below r s y) ≡ whole
      after-left = halved v.does v.node v.count v.tally v.levels v.some_level made halves

      pub left-stops : (left : ℕ) → says counted left ≡ below l v.count counted → leb ENDED (end_in left) ≡ true
          → says v.tally left ≡ whole
      left-stops left comes stop =
          same left
          ∙ sym (stops _ _ _ _ counted.allowance left (λ s y. below r s y) stop)
          ∙ after-left comes

      -- the row of the left half is bad, so the visit that is due to it is refused, if there is one left
      module _ {ending row : ℕ} (more : 0 < pred v.levels) (small : row < most_rows) where
        pub bad-left : ending ≡ due (next counted) (bad_row + row) → refuse 10 v.first row ≡ v.does l
            → says v.tally ending ≡ whole
        bad-left is bad =
            ap (says v.tally) is
            ∙ left-stops _
            (reads-bad-due _ _ _ _ v.does l v.count counted (pred v.levels) more row small bad)
            (due-stops (next counted) (bad_row + row) (omega arith) (omega arith))

        pub second-bad-left : ending ≡ due (next counted) (bad_second + row) → refuse 10 v.second row ≡ v.does l
            → says v.tally ending ≡ whole
        second-bad-left is bad =
            ap (says v.tally) is
            ∙ left-stops _
            (reads-second-due _ _ _ _ v.does l v.count counted (pred v.levels) more row small bad)
            (due-stops (next counted) (bad_second + row) (omega arith) (omega arith))

      -- ---------------- the left half is over: the right half goes on with a tally that has its visits
      module _ (left : ℕ) (comes : says counted left ≡ below l v.count counted)
          (goes_on : leb ENDED (end_in left) ≡ false) {y : Tally} (tallied : y ≡ tally_in counted.allowance left) where
        -- the count of the left half
        abbrev pub left_count : S
        left_count = cond (odd_in left) v.odd v.even

        pub right-goes : (right : ℕ) {s : S} → s ≡ left_count → says y right ≡ below r s y
            → says v.tally right ≡ whole
        right-goes right counts g =
            same right
            ∙ ap (λ (x : Tally). says x right) (sym tallied)
            ∙ g
            ∙ (λ d. below r (counts d) (tallied d))
            ∙ sym (goes _ _ _ _ counted.allowance left (λ s y. below r s y) goes_on)
            ∙ after-left comes

        -- the row of the right half is bad
        module _ {ending row : ℕ} (more : 0 < pred v.levels) (small : row < most_rows) where
          pub bad-right : ending ≡ due (next y) (bad_row + row) → refuse 10 v.first row ≡ v.does r
              → says v.tally ending ≡ whole
          bad-right is bad =
              right-goes ending refl
              (ap (says y) is
              ∙ reads-bad-due _ _ _ _ v.does r left_count y (pred v.levels) more row small bad)

          pub second-bad-right : ending ≡ due (next y) (bad_second + row) → refuse 10 v.second row ≡ v.does r
              → says v.tally ending ≡ whole
          second-bad-right is bad =
              right-goes ending refl
              (ap (says y) is
              ∙ reads-second-due _ _ _ _ v.does r left_count y (pred v.levels) more row small bad)
