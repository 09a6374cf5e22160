-- The walk with IN's tests is IN's.
use mathlib.Core.Path.{◌∙◌, ap}
use mathlib.Core.Bool.{Bool, false}
use Rattle.rules.specs.declared.Line.TheVariants.{LineA}
use Rattle.rules.specs.declared.Node.{Node}
use Rattle.rules.specs.Sheet.{segments_of}
use Rattle.rules.specs.Walk.{fresh, Visit, walk}
use Rattle.rules.specs.Questions.{root}
use Rattle.in_visit.proofs.Visits.{visits-in}
use Rattle.in_walk.proofs.ask.Goals as goal

pub returns : goal.returns
returns c =
    let a = c.args in
    let ps = a.points.now.now in
    rw c.fresh.ensures at (c.walk_any_line.ensures LineA LineA)
    ∙ ap (λ (v : Node → Visit Bool Node). walk v (segments_of ps) (root ps) false (fresh a.allowance))
    (visits-in ps a.table.now.now a.z)
