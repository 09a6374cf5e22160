-- `from_good_roots` makes the first visit of the walk; where it halves a node, the walk goes on.
use mathlib.Core.Path.{sym, ◌∙◌}
use Rattle.meet.proofs.Roots.{stands, unvisited, finished, passed, opened-roots, went-on}
use Rattle.meet.proofs.from_good_roots.Goals as goal

pub visit-requires-2 : goal.visit-requires-2
visit-requires-2 c = stands c.requires

pub open-requires : goal.open-requires
open-requires c =
    opened-roots c.requires c.args.fresh (sym c.visit.ensures ∙ c.in-Some.is) c.visit-2.ensures c.in-Halves.is

pub returns-in_default : goal.returns-in_default
returns-in_default c = c.says.ensures ∙ unvisited c.requires c.args.fresh (sym c.visit.ensures ∙ c.in_default.is)

pub returns-in-Finishes : goal.returns-in-Finishes
returns-in-Finishes c =
    c.says-in-Finishes.ensures
    ∙ finished c.requires c.args.fresh (sym c.visit.ensures ∙ c.in-Some.is) c.visit-2.ensures c.in-Finishes.is

pub returns-in-Passes : goal.returns-in-Passes
returns-in-Passes c =
    c.says-in-Passes.ensures
    ∙ passed c.requires c.args.fresh (sym c.visit.ensures ∙ c.in-Some.is) c.visit-2.ensures c.in-Passes.is

pub returns-in-Halves : goal.returns-in-Halves
returns-in-Halves c =
    c.answer.ensures
    ∙ went-on c.requires c.args.fresh (sym c.visit.ensures ∙ c.in-Some.is) c.open.result c.open.ensures
