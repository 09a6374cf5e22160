-- What one visit does, in the words of the definitions.
use Rattle.std.specs.Prelude.{◌≡◌, Bool, true, false, cond, List, ℕ, ℤ}
use Rattle.rules.specs.declared.Line.{Line}
use Rattle.rules.specs.declared.Node.{Node}
use Rattle.rules.specs.declared.Point.{Point}
use Rattle.rules.specs.declared.Row.{Row}
use Rattle.rules.specs.Plane.{direction}
use Rattle.rules.specs.Tree.{row_at}
use Rattle.rules.specs.Rows.{good}
use Rattle.rules.specs.Walk.{Visit, refuse, finish, pass, halve}
use Rattle.rules.specs.Questions.{leaf, split_in, left_of, right_of, start_of, end_of}
use Rattle.visits.specs.Nodes.{Inner}
use Rattle.row.specs.Parts.{leaf_fits, split_fits}
use Rattle.walk.specs.Tests.{Tests}
use Rattle.walk.specs.declared.Step.{Step}
use Rattle.walk.specs.declared.Step.TheVariants.{Bad, Finish, Pass, Halve}

-- what a visit of a node does, where a chord that crosses, or not, changes a count
abbrev pub step_visit : {S : Type 0} → (Bool → S → S) → Line → Node → Step → Visit S Node
step_visit after l n Bad = refuse 10 l n.row
step_visit after l n Finish = finish
step_visit after l n (Pass crossed) = pass (after crossed)
step_visit after l n (Halve s) = halve (left_of n s) (right_of n s)

-- what a visit comes to, by whether its row is good and it is a leaf, and by the tests of a row, from a to b
abbrev pub step_by : Tests → Row → Point → Point → Bool → Bool → Step
step_by q r a b is_good is_leaf =
    cond is_good
    (cond (q.dismisses r a (direction a b)) (Pass (q.crosses a b))
    (cond is_leaf (cond (q.meets a b) Finish (Pass (q.crosses a b))) (Halve (split_in r))))
    Bad

-- so of a leaf and of a node of more segments whose frame is good
abbrev pub leaf_step : Tests → Row → Point → Point → Step
leaf_step q r a b = step_by q r a b (leaf_fits r a b) true

abbrev pub inner_step : Tests → Row → ℕ → ℕ → Point → Point → Step
inner_step q r first last a b = step_by q r a b (split_fits r first last) false

-- and of any node
abbrev pub visit_step : Tests → List ℤ → List ℤ → Node → Step
visit_step q ps t n =
    let r = row_at t n.row in
    step_by q r (start_of ps n) (end_of ps n) (good ps r n.first n.last) (leaf n)

-- a node is halved at an inner point
abbrev pub SplitsInside : ℕ → ℕ → Step → Type 0
SplitsInside first last Bad = Unit {0}
SplitsInside first last Finish = Unit {0}
SplitsInside first last (Pass crossed) = Unit {0}
SplitsInside first last (Halve s) = Inner first s last

-- a visit is the written one, and halves at an inner point
pub record Visits (q : Tests) (ps t : List ℤ) (n : Node) (s : Step) : Type 0 where
  pub does : s ≡ visit_step q ps t n
  pub inside : SplitsInside n.first n.last s
