-- Of the walk itself: each node that NEAR, IN and MEET visit is reached through good rows; and so, of a line with a
-- segment, its row and both its halves' rows are below 2n-1, whatever points and table hold. And none is forgotten: a
-- question tells as many visits as nodes are visited.
use mathlib.Core.List.{List, [], ◌∷◌}
use Prim.Native.Nat.{ℕ, ◌≤◌}
use lib.IntN.{ℤ}
use Rattle.rules.specs.declared.Line.{Line}
use Rattle.rules.specs.declared.Line.TheVariants.{LineA}
use Rattle.rules.specs.declared.Point.{Point}
use Rattle.rules.specs.declared.Tally.{Tally}
use Rattle.rules.specs.Sheet.{segments_of}
use Rattle.rules.specs.Walk.{fresh}
use Rattle.rules.specs.Questions.{near_checks, near_reply, meet_checks, meet_reply, in_checks, in_reply}
use Rattle.visits.specs.Reached.{Reached, at-root, RowsBelow, PairReached, PairBelow}
use Rattle.visits.proofs.Reached.{reached-below}
use Rattle.refusals.specs.Trace.{near_visited, meet_visited, in_visited, Each}
use Rattle.refusals.specs.Named.{Counted}
use Rattle.refusals.proofs.Sees.{each-come}
use Rattle.refusals.proofs.Questions.{near-visits, in-visits, meet-visits}
use Rattle.refusals.proofs.Questions.{near-question, in-question, meet-question, visits-counted}

each_map : {N : Type 0} {P Q : N → Type 0} → ((n : N) → P n → Q n) → (ns : List N) → Each P ns → Each Q ns
each_map f [] h = tt
each_map f (n ∷ ns) h = (f n h.0, each_map f ns h.1)

-- NEAR, also where AGREE asks it: against line l, from tally y on
module _ (l : Line) (ps t : List ℤ) (z : Point) (D : ℤ) (y : Tally) where
  pub near-reached : Each (Reached ps t) (near_visited l ps t z D y)
  near-reached = each-come (near-visits l ps t z D) _ _ _ y at-root

  pub near-below : 1 ≤ segments_of ps → Each (RowsBelow ps t) (near_visited l ps t z D y)
  near-below one = each_map (reached-below one) (near_visited l ps t z D y) near-reached

-- IN
module _ (ps t : List ℤ) (z : Point) (y : Tally) where
  pub in-reached : Each (Reached ps t) (in_visited ps t z y)
  in-reached = each-come (in-visits ps t z) _ _ _ y at-root

  pub in-below : 1 ≤ segments_of ps → Each (RowsBelow ps t) (in_visited ps t z y)
  in-below one = each_map (reached-below one) (in_visited ps t z y) in-reached

-- MEET: both nodes of a pair
module _ (ps t qs t' : List ℤ) (y : Tally) where
  pub meet-reached : Each (PairReached ps t qs t') (meet_visited ps t qs t' y)
  meet-reached = each-come (meet-visits ps t qs t') _ _ _ y (at-root, at-root)

  pub meet_below : 1 ≤ segments_of ps → 1 ≤ segments_of qs → Each (PairBelow ps t qs t') (meet_visited ps t qs t' y)
  meet_below one one' =
      each_map (λ n h. (reached-below one n.a h.0, reached-below one' n.b h.1)) (meet_visited ps t qs t' y)
      meet-reached

-- ---------------- as many as the visits

pub near-counted : (ps t : List ℤ) (z : Point) (D : ℤ) (a : ℕ)
    → Counted (near_checks ps t z D) (near_reply ps t z D a) (near_visited LineA ps t z D (fresh a))
unfolding near_reply
near-counted ps t z D = visits-counted (near-question ps t z D)

pub in-counted : (ps t : List ℤ) (z : Point) (a : ℕ)
    → Counted (in_checks ps t z) (in_reply ps t z a) (in_visited ps t z (fresh a))
unfolding in_reply
in-counted ps t z = visits-counted (in-question ps t z)

pub meet-counted : (ps t qs t' : List ℤ) (a : ℕ)
    → Counted (meet_checks ps t qs t') (meet_reply ps t qs t' a) (meet_visited ps t qs t' (fresh a))
unfolding meet_reply
meet-counted ps t qs t' = visits-counted (meet-question ps t qs t')
