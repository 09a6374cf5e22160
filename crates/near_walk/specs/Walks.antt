-- What the walk is asked for and what it comes to, in the words of the definitions.
use Rattle.std.specs.Prelude.{◌≡◌, List, ℕ, T, ℤ}
use Rattle.integers.specs.Range.{Abs≤}
use Rattle.rules.specs.declared.Line.{Line}
use Rattle.rules.specs.declared.Point.{Point}
use Rattle.rules.specs.declared.Tally.{Tally}
use Rattle.rules.specs.Sheet.{segments_of, farthest}
use Rattle.rules.specs.Rows.{ends_good}
use Rattle.rules.specs.Questions.{near_walk}
use Rattle.visits.specs.Fine.{LengthsFine}
use Rattle.ending.specs.Ending.{walked_in}

-- what is asked for: a whole line of good lengths and ends, and a distance that fits
abbrev pub AsksLine : List ℤ → List ℤ → ℤ → Type 0
AsksLine ps t D = LengthsFine ps t × T (ends_good ps 0 (segments_of ps)) × Abs≤ farthest D

-- r tells how the written walk of the line ends
abbrev pub Comes : List ℤ → List ℤ → Point → ℤ → Tally → ℕ → Type 0
Comes ps t z D tally r = (l m : Line) → walked_in tt tt l m tally.allowance r ≡ near_walk l ps t z D tally
