-- What the walk comes to, in the words of the definitions.
use Rattle.std.specs.Prelude.{◌≡◌, true, false, List, ℕ, ℤ}
use Rattle.rules.specs.declared.Line.TheVariants.{LineA}
use Rattle.rules.specs.declared.Point.{Point}
use Rattle.rules.specs.Walk.{fresh}
use Rattle.rules.specs.Questions.{in_walk}
use Rattle.ending.specs.Ending.{walked_in}

-- r tells how the written walk of the line ends
abbrev pub Comes : List ℤ → List ℤ → Point → ℕ → ℕ → Type 0
Comes ps t z allowance r = walked_in false true LineA LineA allowance r ≡ in_walk ps t z (fresh allowance)
