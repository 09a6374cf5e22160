-- How much of two lines a pair has before it.
use Rattle.std.specs.Prelude.{ℕ, ◌+◌, ◌*◌, ◌-◌}
use Rattle.rules.specs.declared.Pair.{Pair}
use Rattle.rules.specs.Tree.{most_rows}
use Rattle.rules.specs.Questions.{size}

-- the segments of a pair: fewer in each half
abbrev pub segments : Pair → ℕ
segments n = size n.a + size n.b

-- the rows that can come after those of a pair: fewer for each half
abbrev pub ahead : Pair → ℕ
ahead n = 2 * most_rows - (n.a.row + n.b.row)
