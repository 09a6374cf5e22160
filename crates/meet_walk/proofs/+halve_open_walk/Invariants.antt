-- The rows of a half come after those of its pair: fewer are ahead of it.
use Prim.Native.Nat.{◌+◌, ◌*◌, ◌-◌}
use Rattle.rules.specs.Tree.{most_rows}
use Rattle.meet_walk.specs.Pair.{ahead}
use Rattle.meet_walk.proofs.+halve_open_walk.Given as goal

-- three times the rows that are ahead of the pair, and more for what halves come after
abbrev pub decreases-halve : goal.decreases-halve
decreases-halve l = 3 * ahead l.pair

abbrev pub decreases-open : goal.decreases-open
decreases-open l = 3 * (2 * most_rows - (l.rows.a + l.rows.b)) + 1

abbrev pub decreases-walk : goal.decreases-walk
decreases-walk l = 3 * (2 * most_rows - (l.rows.a + l.rows.b)) + 2
