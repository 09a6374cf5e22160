-- The walk with NEAR's tests is NEAR's; the distance is handed on as it is.
use mathlib.Core.Path.{◌∙◌}
use Rattle.line.proofs.Stored.{stored}
use Rattle.near_walk.proofs.Root.{walks-near}
use Rattle.near_walk.proofs.ask_any.Goals as goal

pub returns : goal.returns
returns c l m =
    let a = c.args in
    rw (stored c.requires.2 tt) at (c.walk_any_line.ensures l m)
    ∙ walks-near l a.points.now.now a.table.now.now a.z a.d a.tally
