-- The pair that MEET's walk starts from.
use Rattle.std.specs.Prelude.{List, ℤ}
use Rattle.rules.specs.declared.Pair.{Pair}
use Rattle.rules.specs.Questions.{root}

abbrev pub roots : List ℤ → List ℤ → Pair
roots ps qs = record { a = root ps; b = root qs }
