-- The two sides of a pair: what is line A's, and what is line B's.
use Rattle.std.specs.Prelude.{ℕ}
use Rattle.rules.specs.declared.Line.{Line}
use Rattle.rules.specs.declared.Line.TheVariants.{LineA, LineB}
use Rattle.rules.specs.declared.Node.{Node}
use Rattle.rules.specs.declared.Pair.{Pair}
use Rattle.rules.specs.Questions.{left_of, right_of}
use Rattle.visits.specs.Nodes.{Inner}
use Rattle.meet_visit.specs.declared.Side.{Side}
use Rattle.meet_visit.specs.declared.Side.TheVariants.{OfA, OfB}

-- of two, the one on that side; the line there, and the node of a pair
abbrev pub on : {X : Type 0} → Side → X → X → X
on OfA x y = x
on OfB x y = y

abbrev pub line_on : Side → Line
line_on k = on k LineA LineB

abbrev pub node_on : Side → Pair → Node
node_on k n = on k n.a n.b

-- the pair with another node on that side
abbrev pub with_node : Side → Pair → Node → Pair
with_node OfA n m = record { a = m; b = n.b }
with_node OfB n m = record { a = n.a; b = m }

-- its halves, where that node is halved
abbrev pub left_on : Side → Pair → ℕ → Pair
left_on k n split = with_node k n (left_of (node_on k n) split)

abbrev pub right_on : Side → Pair → ℕ → Pair
right_on k n split = with_node k n (right_of (node_on k n) split)

-- a node is halved at an inner point
abbrev pub SplitsOn : Side → Pair → ℕ → Type 0
SplitsOn k n split = Inner (node_on k n).first split (node_on k n).last
