-- What one visit does is what `rules` writes of NEAR.
use mathlib.Core.Path.{◌≡◌}
use mathlib.Core.List.{List}
use lib.IntN.{ℤ}
use Rattle.rules.specs.declared.Line.{Line}
use Rattle.rules.specs.declared.Point.{Point}
use Rattle.rules.specs.Questions.{near_visit}
use Rattle.walk.specs.Walks.{visit_of}
use Rattle.walk.proofs.Visits.{written}
use Rattle.near_visit.specs.Tests.{nothing_counted, near_tests}

pub visits-near : (l : Line) (ps t : List ℤ) (z : Point) (D : ℤ)
    → visit_of nothing_counted (near_tests z D) ps t l ≡ near_visit l ps t z D
unfolding near_visit
visits-near l ps t z D = λ i n. written nothing_counted (near_tests z D) ps t l n i
