-- What a step of a visit does, in the words of the written walk: of NEAR, which counts nothing, and of IN.
use Rattle.std.specs.Prelude.{Bool, true, false}
use Rattle.rules.specs.declared.Line.{Line}
use Rattle.rules.specs.declared.Line.TheVariants.{LineA}
use Rattle.rules.specs.declared.Node.{Node}
use Rattle.rules.specs.Walk.{Visit}
use Rattle.rules.specs.Questions.{Nothing, count}
use Rattle.walk.specs.declared.Step.{Step}
use Rattle.walk.specs.declared.Step.TheVariants.{Bad, Finish, Pass, Halve}
use Rattle.walk.specs.Steps.{step_visit}

abbrev pub near_does : Line → Node → Step → Visit Nothing Node
near_does l n s = step_visit (λ crossed k. k) l n s

abbrev pub in_does : Node → Step → Visit Bool Node
in_does n s = step_visit count LineA n s

-- a step that passes no chord that crosses, as every step of NEAR
abbrev pub Uncrossed : Step → Type 0
Uncrossed Bad = Unit {0}
Uncrossed Finish = Unit {0}
Uncrossed (Pass true) = ⊥
Uncrossed (Pass false) = Unit {0}
Uncrossed (Halve s) = Unit {0}
