-- A visit of NEAR passes no chord that crosses, so that what it does is done by one step alone.
use mathlib.Core.Path.{◌≡◌, subst⁻¹}
use mathlib.Core.Bool.{Bool, true, false, cond}
use mathlib.Core.List.{List}
use Prim.Native.Nat.{ℕ}
use lib.IntN.{ℤ}
use Rattle.rules.specs.declared.Line.{Line}
use Rattle.rules.specs.declared.Node.{Node}
use Rattle.rules.specs.declared.Point.{Point}
use Rattle.rules.specs.declared.Row.{Row}
use Rattle.rules.specs.Plane.{direction}
use Rattle.rules.specs.Plain.{within}
use Rattle.rules.specs.Tree.{row_at}
use Rattle.rules.specs.Rows.{good}
use Rattle.rules.specs.Questions.{leaf, split_in, start_of, end_of, far_from}
use Rattle.walk.specs.declared.Step.{Step}
use Rattle.walk.specs.declared.Step.TheVariants.{Bad, Finish, Pass, Halve}
use Rattle.walk.specs.Steps.{step_visit, Visits}
use Rattle.visit_truth.specs.Does.{Uncrossed}
use Rattle.visit_truth.proofs.Near as steps
use Rattle.near_visit.specs.Tests.{nothing_counted, near_tests}

-- by whether the row is good, the node far, a leaf, and within the distance
uncrossed_by : (is_good is_far is_leaf is_within : Bool) (split : ℕ)
    → Uncrossed (cond is_good
    (cond is_far (Pass false) (cond is_leaf (cond is_within Finish (Pass false)) (Halve split))) Bad)
uncrossed_by false f l w s = tt
uncrossed_by true true l w s = tt
uncrossed_by true false true true s = tt
uncrossed_by true false true false s = tt
uncrossed_by true false false w s = tt

-- a step that some visit of NEAR makes
pub record OfNear (s : Step) : Type 0 where
  pub z : Point
  pub distance : ℤ
  pub points : List ℤ
  pub table : List ℤ
  pub node : Node
  pub visits : Visits (near_tests z distance) points table node s

pub near-uncrossed : {s : Step} → OfNear s → Uncrossed s
near-uncrossed o =
    let r : Row = row_at o.table o.node.row in
    let a = start_of o.points o.node in
    let b = end_of o.points o.node in
    let is_good = good o.points r o.node.first o.node.last in
    subst⁻¹ Uncrossed o.visits.does
    (uncrossed_by is_good (far_from r a (direction a b) o.z o.distance) (leaf o.node) (within o.z a b o.distance)
    (split_in r))

-- two steps that visits of NEAR make, and that do the same, are the same
pub step-unique : (l : Line) (n : Node) {v w : Step} → OfNear v → OfNear w
    → step_visit nothing_counted.after l n v ≡ step_visit nothing_counted.after l n w → v ≡ w
step-unique l n {v} {w} p q = steps.step-unique l n v w (near-uncrossed p) (near-uncrossed q)
