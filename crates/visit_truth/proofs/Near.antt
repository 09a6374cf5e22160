-- NEAR: it counts nothing, and no chord crosses.
use mathlib.Core.Path.{◌≡◌, refl, sym, ◌∙◌, ap}
use mathlib.Core.Bool.{true, false}
use Rattle.rules.specs.declared.Line.{Line}
use Rattle.rules.specs.declared.Node.{Node}
use Rattle.rules.specs.Walk.{Visit, refuse, finish, pass, halve}
use Rattle.rules.specs.Questions.{Nothing}
use Rattle.walk.specs.declared.Step.{Step}
use Rattle.walk.specs.declared.Step.TheVariants.{Bad, Finish, Pass, Halve}
use Rattle.visit_truth.specs.Does.{near_does, Uncrossed}

step_back : Visit Nothing Node → Step
step_back (refuse number line place) = Bad
step_back finish = Finish
step_back (pass f) = Pass false
step_back (halve l r) = Halve l.last

step_back_lem : (l : Line) (n : Node) (s : Step) → Uncrossed s → step_back (near_does l n s) ≡ s
unfolding step_back
step_back_lem l n Bad u = refl
step_back_lem l n Finish u = refl
step_back_lem l n (Pass true) u = absurd u
step_back_lem l n (Pass false) u = refl
step_back_lem l n (Halve s) u = refl

pub step-unique : (l : Line) (n : Node) (v w : Step) → Uncrossed v → Uncrossed w
    → near_does l n v ≡ near_does l n w → v ≡ w
step-unique l n v w p q e = sym (step_back_lem l n v p) ∙ ap step_back e ∙ step_back_lem l n w q
