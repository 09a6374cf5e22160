-- The nodes that a walk visits, in the order of the visits: the way of the walk, with the nodes kept.
use Rattle.std.specs.Prelude.{Option, Some, None}
use Rattle.std.specs.Prelude.{false, List, [], ◌∷◌, ◌++◌, ℕ, zero, suc, ◌+◌, ℤ}
use Rattle.rules.specs.declared.Line.{Line}
use Rattle.rules.specs.declared.Node.{Node}
use Rattle.rules.specs.declared.Pair.{Pair}
use Rattle.rules.specs.declared.Point.{Point}
use Rattle.rules.specs.declared.Tally.{Tally}
use Rattle.rules.specs.Sheet.{segments_of}
use Rattle.rules.specs.Walk.{next, Visit, refuse, finish, pass, halve, Walked, ended, over, spent, refused, walk}
use Rattle.rules.specs.Questions.{root, near_visit, meet_visit, in_visit}

-- none where a visit is due and none is left
abbrev pub nodes_left : {N : Type 0} → Option Tally → (Tally → List N) → List N
nodes_left (Some y) go = go y
nodes_left None go = []

-- those of the halves, where the visit halves
abbrev pub nodes_halved : {S N : Type 0} → Visit S N → (N → N → List N) → List N
nodes_halved (refuse number line place) go = []
nodes_halved finish go = []
nodes_halved (pass f) go = []
nodes_halved (halve l r) go = go l r

-- those of the left half, and then, where its walk is over, those of the right half
abbrev pub nodes_of_both : {S N : Type 0} → List N → Walked S → (S → Tally → List N) → List N
nodes_of_both left (ended y) go = left
nodes_of_both left (over s y) go = left ++ go s y
nodes_of_both left spent go = left
nodes_of_both left (refused r) go = left

module _ {S N : Type 0} where
  -- the nodes that a walk visits
  unfoldable pub visits_of : (N → Visit S N) → ℕ → N → S → Tally → List N
  visits_of visit zero n s y = []
  visits_of visit (suc levels) n s y =
      nodes_left (next y) λ v.
      n ∷ nodes_halved (visit n) λ l r.
      nodes_of_both (visits_of visit levels l s v) (walk visit levels l s v) (λ s' v'. visits_of visit levels r s' v')

-- those of NEAR against line l from tally y on, of IN, and of MEET
abbrev pub near_visited : Line → List ℤ → List ℤ → Point → ℤ → Tally → List Node
near_visited l ps t z D y = visits_of (near_visit l ps t z D) (segments_of ps) (root ps) tt y

abbrev pub in_visited : List ℤ → List ℤ → Point → Tally → List Node
in_visited ps t z y = visits_of (in_visit ps t z) (segments_of ps) (root ps) false y

abbrev pub meet_visited : List ℤ → List ℤ → List ℤ → List ℤ → Tally → List Pair
meet_visited ps t qs t' y =
    visits_of (meet_visit ps t qs t') (segments_of ps + segments_of qs) (record { a = root ps; b = root qs }) tt y

-- each of a list has P
abbrev pub Each : {N : Type 0} → (N → Type 0) → List N → Type 0
Each P [] = Unit {0}
Each P (n ∷ ns) = P n × Each P ns
