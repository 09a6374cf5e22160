-- The rows that `visit` reads are good, so they tell their nodes.
use Rattle.meet_visit.proofs.GoodRows.{tells-node}
use Rattle.meet_visit.proofs.visit.Goals as goal

pub pair_at-pair-requires : goal.pair_at-pair-requires
pair_at-pair-requires c = (tells-node c.requires.of-a, tells-node c.requires.of-b)
