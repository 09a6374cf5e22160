-- What the values of `meet_visit` say, in the words of the definitions, and the parts of one visit.
use Rattle.std.specs.Prelude.{Bool, cond, ◌&&◌, List, leb, ℤ}
use Rattle.rules.specs.declared.Pair.{Pair}
use Rattle.rules.specs.declared.Point.{Point}
use Rattle.rules.specs.declared.Row.{Row}
use Rattle.rules.specs.Plain.{share}
use Rattle.rules.specs.Walk.{Visit, halve}
use Rattle.rules.specs.Questions.{Nothing, leaf, size, split_in, start_of, end_of, heading_of, apart}
use Rattle.meet_visit.specs.Sides.{left_on, right_on, SplitsOn}
use Rattle.meet_visit.specs.declared.Does.{Does}
use Rattle.meet_visit.specs.declared.Does.TheVariants.{Finishes, Passes, Halves}
use Rattle.meet_visit.specs.declared.Step.{Step}
use Rattle.meet_visit.specs.declared.Step.TheVariants.{HalveA, HalveB}
use Rattle.meet_visit.specs.declared.Side.TheVariants.{OfA, OfB}

-- the halves that a step makes of a pair
abbrev pub step_visit : Pair → Step → Visit Nothing Pair
step_visit n (HalveA split) = halve (left_on OfA n split) (right_on OfA n split)
step_visit n (HalveB split) = halve (left_on OfB n split) (right_on OfB n split)

-- a node is halved at an inner point
abbrev pub SplitsInside : Pair → Step → Type 0
SplitsInside n (HalveA split) = SplitsOn OfA n split
SplitsInside n (HalveB split) = SplitsOn OfB n split

-- the node with more segments splits, A on a tie
abbrev pub opened : Row → Row → Pair → Step
opened r q n = cond (leb (size n.b) (size n.a)) (HalveA (split_in r)) (HalveB (split_in q))

-- ---------------- the parts of one visit, in its order
-- two leaves get the exact test
abbrev pub tested : Point → Point → Point → Point → Does
tested a b c d = cond (share a b c d) Finishes Passes

-- whether the nodes of a pair are dismissed, by their rows, first points and headings
abbrev pub nodes_apart : List ℤ → Row → List ℤ → Row → Pair → Bool
nodes_apart ps r qs q n =
    apart r (start_of ps n.a) (heading_of ps n.a) q (start_of qs n.b) (heading_of qs n.b)

-- what a visit does after both rows are read and good
abbrev pub compared : List ℤ → Row → List ℤ → Row → Pair → Does
compared ps r qs q n =
    cond (nodes_apart ps r qs q n) Passes
    (cond (leaf n.a && leaf n.b)
    (tested (start_of ps n.a) (end_of ps n.a) (start_of qs n.b) (end_of qs n.b))
    Halves)
