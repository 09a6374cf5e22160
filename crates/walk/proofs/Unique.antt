-- A visit has one outcome alone, whatever the question.
use mathlib.Core.Path.{◌≡◌, sym, ◌∙◌}
use mathlib.Core.List.{List}
use lib.IntN.{ℤ}
use Rattle.rules.specs.declared.Node.{Node}
use Rattle.walk.specs.Tests.{Tests}
use Rattle.walk.specs.Steps.{Visits}
use Rattle.walk.specs.declared.Step.{Step}

pub step-unique : (q : Tests) (ps t : List ℤ) (n : Node) (v w : Step) → Visits q ps t n v → Visits q ps t n w → v ≡ w
step-unique q ps t n v w e f = e.does ∙ sym f.does
