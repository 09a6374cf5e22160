-- What a walk is asked for and what it comes to, in the words of the definitions.
use Rattle.std.specs.Prelude.{◌≡◌, Bool, List, ℕ, ◌+◌, ◌≤◌, T, ℤ}
use Rattle.rules.specs.declared.Line.{Line}
use Rattle.rules.specs.declared.Node.{Node}
use Rattle.rules.specs.declared.Tally.{Tally}
use Rattle.rules.specs.Sheet.{segments_of}
use Rattle.rules.specs.Rows.{ends_good}
use Rattle.rules.specs.Walk.{Visit, walk}
use Rattle.rules.specs.Questions.{root}
use Rattle.visits.specs.Fine.{LengthsFine}
use Rattle.ending.specs.Ending.{walked_in}
use Rattle.walk.specs.Tests.{Tests, Counting, count_of}
use Rattle.walk.specs.Steps.{step_visit, visit_step}

-- what is asked for: a whole line of good lengths and ends
abbrev pub AsksLine : List ℤ → List ℤ → Type 0
AsksLine ps t = LengthsFine ps t × T (ends_good ps 0 (segments_of ps))

module _ {S : Type 0} (c : Counting S) (q : Tests) (ps t : List ℤ) where
  -- what a question's visit does
  abbrev pub visit_of : Line → Node → Visit S Node
  visit_of l n = step_visit c.after l n (visit_step q ps t n)

  -- r tells how the written walk ends: from a node of at most f segments on, with f levels, and the count so far,
  abbrev pub Walks : Node → Bool → Tally → ℕ → Type 0
  Walks n is_odd tally r =
      (l m : Line) (f : ℕ) → n.last ≤ f + n.first
      → walked_in c.even c.odd l m tally.allowance r ≡ walk (visit_of l) f n (count_of c is_odd) tally

  -- and that of the whole line
  abbrev pub Comes : Tally → ℕ → Type 0
  Comes tally r =
      (l m : Line) → walked_in c.even c.odd l m tally.allowance r
      ≡ walk (visit_of l) (segments_of ps) (root ps) c.even tally
