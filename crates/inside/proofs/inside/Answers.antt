-- `inside` tells the first refusal; where no check refuses, the walk answers.
use mathlib.Core.Path.{◌∙◌}
use Rattle.limits.proofs.OnSheets.{on-sheet}
use Rattle.inside.proofs.Replies.{in-checked, in-fine}
use Rattle.inside.proofs.inside.Goals as goal

pub returns-in-Err : goal.returns-in-Err
returns-in-Err c = c.refuses.ensures ∙ in-checked _ _ _ _ c.in-Err.ensures

pub ask-requires : goal.ask-requires
ask-requires c = let fine = in-fine _ _ _ c.in_default.ensures in (fine.0, on-sheet _ fine.1)

-- what the walk comes to is the reply
pub returns : goal.returns
returns c = rw (c.side_of_ring.ensures, c.ask.ensures) (in-checked _ _ _ _ c.in_default.ensures)
