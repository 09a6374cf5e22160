-- The number of segments in the range falls.
use Rattle.std.proofs.Common.{◌-◌}
use Rattle.walk.proofs.+walk.Given as goal

abbrev pub decreases-walk : goal.decreases-walk
decreases-walk g l = l.last - l.first
