-- What the number says that a walk of a pair hands back, in the words of the written walk.
use Rattle.std.specs.Prelude.{Some}
use Rattle.std.specs.Prelude.{◌≡◌, List, ℕ, ◌≤◌, ℤ}
use Rattle.rules.specs.declared.Line.TheVariants.{LineA, LineB}
use Rattle.rules.specs.declared.Pair.{Pair}
use Rattle.rules.specs.declared.Tally.{Tally}
use Rattle.rules.specs.Tree.{row_at}
use Rattle.rules.specs.Walk.{next, halve, walk}
use Rattle.rules.specs.Questions.{meet_visit}
use Rattle.ending.specs.Ending.{walked_in, bad_row, bad_second}
use Rattle.meet_visit.specs.declared.Rows.{Rows}
use Rattle.meet_visit.specs.declared.Side.{Side}
use Rattle.meet_visit.specs.Sides.{on, left_on, right_on, SplitsOn}
use Rattle.meet_visit.specs.Pairs.{PairStands}
use Rattle.meet_visit.specs.declared.Does.TheVariants.{Halves}
use Rattle.meet_visit.specs.Steps.{compared}
use Rattle.meet_walk.specs.Pair.{segments}

-- the rows of a pair, with another one on that side
abbrev pub rows_with : Side → Pair → ℕ → Rows
rows_with k n row = record { a = on k row n.a.row; b = on k n.b.row row }

-- what a bad row of the line on that side is told by
abbrev pub bad_on : Side → ℕ
bad_on k = on k bad_row bad_second

-- a visit of a pair whose rows are good halves its node on that side, at an inner point
pub record HalvedOn (k : Side) (ps t qs t' : List ℤ) (n : Pair) (split : ℕ) : Type 0 where
  pub pair-stands : PairStands ps t qs t' n
  pub inner : SplitsOn k n split
  pub visit : halve (left_on k n split) (right_on k n split) ≡ meet_visit ps t qs t' n

-- a visit of a pair whose rows are good halves its node with more segments
pub record Opens (ps t qs t' : List ℤ) (n : Pair) : Type 0 where
  pub pair-stands : PairStands ps t qs t' n
  pub halves : compared ps (row_at t n.a.row) qs (row_at t' n.b.row) n ≡ Halves

-- r says what the walk from a pair comes to, with levels enough for its segments
abbrev pub Walks : List ℤ → List ℤ → List ℤ → List ℤ → Pair → Tally → ℕ → Type 0
Walks ps t qs t' n y r =
    (f : ℕ) → segments n ≤ f
    → walked_in tt tt LineA LineB y.allowance r ≡ walk (meet_visit ps t qs t') f n tt y

-- the same of a pair whose visit gave this tally
abbrev pub WalksOn : List ℤ → List ℤ → List ℤ → List ℤ → Pair → Tally → ℕ → Type 0
WalksOn ps t qs t' n counted r = (y : Tally) → next y ≡ Some counted → Walks ps t qs t' n y r
