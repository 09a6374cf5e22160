-- What one visit does is what `rules` writes of IN.
use mathlib.Core.Path.{◌≡◌}
use mathlib.Core.List.{List}
use lib.IntN.{ℤ}
use Rattle.rules.specs.declared.Line.TheVariants.{LineA}
use Rattle.rules.specs.declared.Point.{Point}
use Rattle.rules.specs.Questions.{in_visit}
use Rattle.walk.specs.Walks.{visit_of}
use Rattle.walk.proofs.Visits.{written}
use Rattle.in_visit.specs.Tests.{parity, in_tests}

pub visits-in : (ps t : List ℤ) (z : Point) → visit_of parity (in_tests z) ps t LineA ≡ in_visit ps t z
unfolding in_visit
visits-in ps t z = λ i n. written parity (in_tests z) ps t LineA n i
