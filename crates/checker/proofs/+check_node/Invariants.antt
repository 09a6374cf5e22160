-- `check_node` takes one level of the written check. The number of segments in the range falls.
use Rattle.std.proofs.Common.{◌-◌}
use Rattle.checker.proofs.+check_node.Given as goal

abbrev pub decreases-check_node : goal.decreases-check_node
decreases-check_node a = a.last - a.first
