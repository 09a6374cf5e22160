use Rattle.std.proofs.Common.{arith}
use Rattle.std.proofs.lemmas.Int.{ints}
use Rattle.rules.specs.Questions.{shortfall}
use Rattle.reach.proofs.shortfall.Goals as goal

pub returns-then-v-lo : goal.returns-then-v-lo
unfolding shortfall
returns-then-v-lo c = grind (arith, ints)

pub returns-then-hi-v : goal.returns-then-hi-v
unfolding shortfall
returns-then-hi-v c = grind (arith, ints)

pub returns : goal.returns
unfolding shortfall
returns c = grind (arith, ints)
