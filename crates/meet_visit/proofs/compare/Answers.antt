-- The points that `compare` reads are the nodes' ends, and a good row puts them and the boxes where arithmetic is
-- exact.
use Rattle.meet_visit.proofs.GoodRows.{ends_on, placed_at}
use Rattle.meet_visit.proofs.compare.Goals as goal

pub apart-requires : goal.apart-requires
apart-requires c = (
  placed_at c.requires.0 c.point_at-start_a.ensures c.point_at-end_a.ensures,
  placed_at c.requires.1 c.point_at-start_b.ensures c.point_at-end_b.ensures,
)

pub test-requires : goal.test-requires
test-requires c =
    let a = ends_on c.requires.0 c.point_at-start_a.ensures c.point_at-end_a.ensures in
    let b = ends_on c.requires.1 c.point_at-start_b.ensures c.point_at-end_b.ensures in (a.0, a.1, b.0, b.1)
