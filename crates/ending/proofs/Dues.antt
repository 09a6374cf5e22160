-- A visit that is due to a bad row: refused there, or none was left; either way the walk stops.
use Rattle.std.specs.Prelude.{Option, Some, None}
use mathlib.Core.Path.{◌≡◌, refl, ◌∙◌, ap}
use mathlib.Core.Bool.{true}
use Prim.Native.Nat.{ℕ, ◌+◌, ◌<◌, ◌≤◌}
use borrow.Author.Tests.{le-leb}
use lib.Dec.{leb}
use Rattle.rules.specs.declared.Line.{Line}
use Rattle.rules.specs.declared.Tally.{Tally}
use Rattle.rules.specs.Tree.{most_rows}
use Rattle.rules.specs.Walk.{next, Visit, refuse, Walked, refused, walk}
use Rattle.visits.proofs.Levels.{none_left, visited}
use Rattle.ending.specs.Ending.{half, packed, end_in, ENDED, bad_row, bad_second, refusal_at, due, walked_in}
use Rattle.ending.proofs.Ends.{end-in, reads-spent, reads-bad, reads-bad-second}

pub due-stops : (n : Option Tally) (end : ℕ) → ENDED ≤ end → end < half → leb ENDED (end_in (due n end)) ≡ true
due-stops (Some v) end big small = ap (leb ENDED) (end-in v.visits end small) ∙ le-leb ENDED end big
due-stops None end big small = refl

module _ {S N : Type 0} (even odd : S) (l m : Line) (visit : N → Visit S N) (n : N) (s : S) (y : Tally)
    (f : ℕ) (h : 0 < f) (row : ℕ) (small : row < most_rows) where
  abbrev comes : ℕ → Walked S
  comes r = walked_in even odd l m y.allowance r

  -- an end that is read as a refusal at a row, and the visit that refuses there
  reads-due : (k : Line) (end : ℕ) → ((v : ℕ) → comes (packed v end) ≡ refused (refusal_at k row v))
      → refuse 10 k row ≡ visit n → comes (due (next y) end) ≡ walk visit f n s y
  reads-due k end told q = by (next y) refl
    where
      by : (x : Option Tally) → next y ≡ x → comes (due x end) ≡ walk visit f n s y
      by (Some v) e = told v.visits ∙ visited visit n s y f h e q
      by None e = reads-spent even odd l m y.allowance 0 ∙ none_left visit n s y f h e

  pub reads-bad-due : refuse 10 l row ≡ visit n → comes (due (next y) (bad_row + row)) ≡ walk visit f n s y
  reads-bad-due = reads-due l (bad_row + row) (λ v. reads-bad even odd l m y.allowance v row small)

  pub reads-second-due : refuse 10 m row ≡ visit n → comes (due (next y) (bad_second + row)) ≡ walk visit f n s y
  reads-second-due = reads-due m (bad_second + row) (λ v. reads-bad-second even odd l m y.allowance v row small)
