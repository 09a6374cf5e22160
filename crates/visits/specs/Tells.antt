-- What it means that a visit is right, and that a walk tells the truth. A node's truth is two things: whether something
-- in it
-- ends the walk (`hit`), and what it adds to the count (`add`).
use Rattle.std.specs.Prelude.{◌≡◌, Bool, true, false, ◌||◌, ℕ}
use Rattle.rules.specs.Walk.{Visit, refuse, finish, pass, halve, Walked, ended, over, spent, refused}

module _ {S N : Type 0} (hit : N → Bool) (add : N → S → S) where
  -- what a walk tells of a node, from a count s
  abbrev pub Tells : N → S → Walked S → Type 0
  Tells n s (ended y) = hit n ≡ true
  Tells n s (over s' y) = (hit n ≡ false) × (s' ≡ add n s)
  Tells n s spent = Unit {0}
  Tells n s (refused r) = ⊥

  -- a visit is right about a node whose halves may have this many levels: it refuses nothing, and what it does is the
  -- truth
  abbrev pub Right : (ℕ → N → Type 0) → ℕ → N → Visit S N → Type 0
  Right Good f n (refuse number line place) = ⊥
  Right Good f n finish = hit n ≡ true
  Right Good f n (pass g) = (hit n ≡ false) × ((s : S) → g s ≡ add n s)
  Right Good f n (halve l r) = Good f l × Good f r × (hit n ≡ hit l || hit r) × ((s : S) → add r (add l s) ≡ add n s)
