-- IN: a pass that changes an even count to an odd one crossed.
use mathlib.Core.Path.{◌≡◌, refl}
use mathlib.Core.Bool.{Bool, true, false}
use Rattle.rules.specs.declared.Node.{Node}
use Rattle.rules.specs.Walk.{Visit, refuse, finish, pass, halve}
use Rattle.rules.proofs.Unique.{said-once}
use Rattle.walk.specs.declared.Step.{Step}
use Rattle.walk.specs.declared.Step.TheVariants.{Bad, Finish, Pass, Halve}
use Rattle.visit_truth.specs.Does.{in_does}

step_back : Visit Bool Node → Step
step_back (refuse number line place) = Bad
step_back finish = Finish
step_back (pass f) = Pass (f false)
step_back (halve l r) = Halve l.last

step_back_lem : (n : Node) (s : Step) → step_back (in_does n s) ≡ s
unfolding step_back
step_back_lem n Bad = refl
step_back_lem n Finish = refl
step_back_lem n (Pass true) = refl
step_back_lem n (Pass false) = refl
step_back_lem n (Halve s) = refl

pub step-unique : (n : Node) (s t : Step) → in_does n s ≡ in_does n t → s ≡ t
step-unique n = said-once (in_does n) step_back (step_back_lem n)
