use Rattle.std.proofs.Common.{arith}
use Rattle.rules.specs.Plain.{share}
use Rattle.apart.proofs.segments.share.Goals as goal

pub returns-then-not-both_aside : goal.returns-then-not-both_aside
unfolding share
returns-then-not-both_aside c = grind arith

pub returns-else-not-both_aside : goal.returns-else-not-both_aside
unfolding share
returns-else-not-both_aside c = grind arith
