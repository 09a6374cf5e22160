-- Any walk has an outcome, whatever its visit does, so long as a visit that opens a node hands on two halves that share
-- the node's parts: a node of k parts is settled by 2k - 1 visits.
use mathlib.Core.Path.{refl}
use Prim.Native.Nat.{ℕ, zero, suc, ◌+◌, ◌*◌, ◌-◌, ◌≤◌}
use native.Mathlib.Nat.{le_refl}
use native.Mathlib.Omega.{arith}
use Rattle.rules.specs.declared.Line.{Line}
use Rattle.rules.specs.declared.Tally.{Tally}
use Rattle.rules.specs.Walk.{next, Visit, refuse, finish, pass, halve, Walked, ended, over, spent, refused}
use Rattle.rules.specs.Walk.{on_visit, go_on, on_step, walk}
use Rattle.allowance.proofs.Needs.{Needs, next-needs, Settled, at-once-settled, loosely-settled}
use Rattle.allowance.proofs.Needs.{read-settled, then-settled}

-- what a walk comes to, but for its visits
pub data Outcome (S : Type 0) : Type 0 where
  hit : Outcome S
  through : S → Outcome S
  fault : ℕ → Line → ℕ → Outcome S

abbrev pub told : {S : Type 0} → Outcome S → Tally → Walked S
told hit y = ended y
told (through s) y = over s y
told (fault number line place) y = refused (record { number = number; line = line; place = place; visits = y.visits })

-- a due visit is one visit more
visit-settled : {S : Type 0} {go : Tally → Walked S} {most : ℕ} → Settled spent told go most
    → Settled spent told (λ y. on_visit (next y) go) (1 + most)
visit-settled {go = go} w = then-settled (λ m. on_visit m go) refl next-needs (λ y. refl) (le_refl 1) w

-- the walk of the right half goes on from the count of the left half, if nothing ended that
both-settled : {S : Type 0} {go : Tally → Walked S} {rest : S → Tally → Walked S} {a b : ℕ} → Settled spent told go a
    → ((s : S) → Settled spent told (rest s) b) → Settled spent told (λ y. go_on (go y) rest) (a + b)
both-settled {S} {go} {rest} {a} {b} w ws = join w.outcome w.exact
  where
    join : (o : Outcome S) → Needs spent go (told o) w.needs → Settled spent told (λ y. go_on (go y) rest) (a + b)
    join hit e = read-settled (λ m. go_on m rest) refl e hit (λ y. refl) (omega arith)
    join (through s) e = then-settled (λ m. go_on m rest) refl e (λ y. refl) w.bounded (ws s)
    join (fault number line place) e =
        read-settled (λ m. go_on m rest) refl e (fault number line place) (λ y. refl) (omega arith)

module _ {S N : Type 0} (Fine : ℕ → N → Type 0) (parts : N → ℕ) where
  -- what a visit of n does, where the halves that it hands on are fine with this many levels, and share the parts of n
  pub data Shares (f : ℕ) (n : N) : Visit S N → Type 0 where
    refuses : {number : ℕ} {line : Line} {place : ℕ} → Shares f n (refuse number line place)
    finishes : Shares f n finish
    passes : {g : S → S} → Shares f n (pass g)
    halves : (l r : N) → Fine f l → Fine f r → parts l + parts r ≤ parts n → Shares f n (halve l r)

  -- visits that halve: a fine node has a level left and a part
  pub record Halving (visit : N → Visit S N) : Type 0 where
    pub no-level : (n : N) → Fine zero n → ⊥
    pub some-part : (f : ℕ) (n : N) → Fine f n → 1 ≤ parts n
    pub shares : (f : ℕ) (n : N) → Fine (suc f) n → Shares f n (visit n)

module _ {S N : Type 0} {visit : N → Visit S N} {Fine : ℕ → N → Type 0} {parts : N → ℕ}
    (h : Halving Fine parts visit) where
  -- what one visit does, and the walks of the halves that it hands on
  step-settled : (f : ℕ) (n : N) (s : S) {v : Visit S N} → Shares Fine parts f n v
      → ((m : N) (s' : S) → Fine f m → Settled spent told (walk visit f m s') (2 * parts m - 1))
      → Settled spent told (λ y. on_step v s y (λ l r. go_on (walk visit f l s y) (λ s' y'. walk visit f r s' y')))
      (2 * parts n - 2)
  step-settled f n s (refuses {number} {line} {place}) ih = at-once-settled (fault number line place)
  step-settled f n s finishes ih = at-once-settled hit
  step-settled f n s (passes {g}) ih = at-once-settled (through (g s))
  step-settled f n s (halves l r p q e) ih =
      loosely-settled (both-settled (ih l s p) (λ s'. ih r s' q))
      (omega (arith, h.some-part f l p, h.some-part f r q))

  -- a walk of a node of k parts is settled by 2k - 1 visits
  pub walk-settled : (f : ℕ) (n : N) (s : S) → Fine f n → Settled spent told (walk visit f n s) (2 * parts n - 1)
  unfolding walk
  walk-settled zero n s fine = absurd (h.no-level n fine)
  walk-settled (suc f) n s fine =
      loosely-settled (visit-settled (step-settled f n s (h.shares f n fine) (λ m s' p. walk-settled f m s' p)))
      (omega (arith, h.some-part (suc f) n fine))
