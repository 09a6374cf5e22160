-- `meet` tells the first refusal; where no check refuses, the walk answers.
use mathlib.Core.Path.{◌∙◌}
use Rattle.meet.proofs.Replies.{meet-checked, meet-fine}
use Rattle.meet.proofs.meet.Goals as goal

pub returns-in-Err : goal.returns-in-Err
returns-in-Err c = c.refuses.ensures ∙ meet-checked _ _ _ _ _ c.in-Err.ensures

pub from_roots-requires : goal.from_roots-requires
from_roots-requires c = meet-fine _ _ _ _ c.in_default.ensures

pub returns : goal.returns
returns c = rw c.fresh.ensures at c.from_roots.ensures ∙ meet-checked _ _ _ _ _ c.in_default.ensures
