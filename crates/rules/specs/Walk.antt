-- docs/RULES.md, section 4.2: the tally, and the walk over whatever one visit does. Each question says what its
-- visit does (Questions); the answer, the visits, and later a report or the pending rows, are readings of this one
-- walk.
use Rattle.std.specs.Prelude.{cond, Option, Some, None, ℕ, zero, suc, ◌+◌, ltb}
use Rattle.rules.specs.declared.Line.{Line}
use Rattle.rules.specs.declared.Refusal.{Refusal}
use Rattle.rules.specs.declared.Tally.{Tally}

-- the tally after one more visit, or none is left
abbrev pub next : Tally → Option Tally
next y =
    cond (ltb y.visits y.allowance) (Some (record { allowance = y.allowance; visits = y.visits + 1 })) None

abbrev pub fresh : ℕ → Tally
fresh allowance = record { allowance = allowance; visits = 0 }

-- ---- what one visit does, at nodes of a kind N, with a count of a kind S kept on the way
pub data Visit (S N : Type 0) : Type 0 where
  refuse : ℕ → Line → ℕ → Visit S N  -- refused, by number, line and place
  finish : Visit S N  -- a yes, or on-edge: it ends the walk
  pass : (S → S) → Visit S N  -- dismissed, or a leaf tested: on with the count so changed
  halve : N → N → Visit S N  -- the halves are visited, the left one first

-- ---- what a walk comes to
pub data Walked (S : Type 0) : Type 0 where
  ended : Tally → Walked S  -- a yes, or on-edge
  over : S → Tally → Walked S  -- nothing ended it: the count
  spent : Walked S  -- a visit was due and none was left
  refused : Refusal → Walked S

module _ {S : Type 0} where
  -- when a visit is due and none is left, the walk is spent
  abbrev pub on_visit : Option Tally → (Tally → Walked S) → Walked S
  on_visit (Some y) go = go y
  on_visit None go = spent

  -- what is over goes on; a yes, want of visits and a refusal end the walk
  abbrev pub go_on : Walked S → (S → Tally → Walked S) → Walked S
  go_on (ended y) go = ended y
  go_on (over s y) go = go s y
  go_on spent go = spent
  go_on (refused r) go = refused r

module _ {S N : Type 0} where
  -- a visit that meets a bad row counts
  abbrev pub on_step : Visit S N → S → Tally → (N → N → Walked S) → Walked S
  on_step (refuse number line place) s y go =
      refused (record { number = number; line = line; place = place; visits = y.visits })
  on_step finish s y go = ended y
  on_step (pass f) s y go = over (f s) y
  on_step (halve l r) s y go = go l r

  -- the walk, with at most this many levels
  unfoldable pub walk : (N → Visit S N) → ℕ → N → S → Tally → Walked S
  walk visit zero n s y = spent
  walk visit (suc levels) n s y =
      on_visit (next y) λ v.
      on_step (visit n) s v (λ l r. go_on (walk visit levels l s v) (λ s' v'. walk visit levels r s' v'))
