-- Demand 2 for any walk: where each visit is right about its own node, the walk is right about its first node, under
-- every allowance.
use Rattle.std.specs.Prelude.{Option, Some, None}
use mathlib.Core.Path.{◌≡◌, ◌∙◌, ap}
use mathlib.Core.Bool.{Bool, true, false, cond, ◌||◌}
use Prim.Native.Nat.{ℕ, zero, suc}
use Rattle.rules.specs.declared.Tally.{Tally}
use Rattle.rules.specs.Walk.{next, Visit, refuse, finish, pass, halve, Walked, ended, over, spent, refused, on_visit}
use Rattle.rules.specs.Walk.{go_on, on_step, walk}
pub use Rattle.visits.specs.Tells.{Right, Tells}

module _ {S N : Type 0} (visit : N → Visit S N) (Good : ℕ → N → Type 0) (hit : N → Bool) (add : N → S → S) where
  tells-visit : (n : N) (s : S) (m : Option Tally) (go : Tally → Walked S) → ((y : Tally) → Tells hit add n s (go y))
      → Tells hit add n s (on_visit m go)
  tells-visit n s (Some y) go h = h y
  tells-visit n s None go h = tt

  -- the left half is over, and the walk of the right half tells of both
  tells-right : (n l r : N) (s s' : S) → hit n ≡ hit l || hit r → ((s : S) → add r (add l s) ≡ add n s) → hit l ≡ false
      → s' ≡ add l s
      → (w : Walked S) → Tells hit add r s' w → Tells hit add n s w
  tells-right n l r s s' e a p q (ended y) h = rw (e, p, h)
  tells-right n l r s s' e a p q (over s'' y) h = (rw (e, p, h.0), h.1 ∙ ap (add r) q ∙ a s)
  tells-right n l r s s' e a p q spent h = tt
  tells-right n l r s s' e a p q (refused f) h = h

  tells-left : (n l r : N) (s : S) → hit n ≡ hit l || hit r → ((s : S) → add r (add l s) ≡ add n s)
      → (w : Walked S) (go : S → Tally → Walked S) → Tells hit add l s w
      → ((s' : S) (y : Tally) → Tells hit add r s' (go s' y))
      → Tells hit add n s (go_on w go)
  tells-left n l r s e a (ended y) go h k = rw (e, h)
  tells-left n l r s e a (over s' y) go h k = tells-right n l r s s' e a h.0 h.1 (go s' y) (k s' y)
  tells-left n l r s e a spent go h k = tt
  tells-left n l r s e a (refused f) go h k = h

  module _ (right : (f : ℕ) (n : N) → Good (suc f) n → Right hit add Good f n (visit n)) where
    tells-step : (f : ℕ) (n : N) (s : S) (y : Tally) (v : Visit S N) → Right hit add Good f n v
        → ((m : N) (s' : S) (y' : Tally) → Good f m → Tells hit add m s' (walk visit f m s' y'))
        → Tells hit add n s (on_step v s y (λ l r. go_on (walk visit f l s y) (λ s' y'. walk visit f r s' y')))
    tells-step f n s y (refuse number line place) h ih = h
    tells-step f n s y finish h ih = h
    tells-step f n s y (pass g) h ih = (h.0, h.1 s)
    tells-step f n s y (halve l r) h ih =
        tells-left n l r s h.2 h.3 (walk visit f l s y) (walk visit f r)
        (ih l s y h.0) (λ s' y'. ih r s' y' h.1)

    -- a walk tells the truth of its first node
    pub walk-tells : (f : ℕ) (n : N) (s : S) (y : Tally) → Good f n → Tells hit add n s (walk visit f n s y)
    unfolding walk
    walk-tells zero n s y g = tt
    walk-tells (suc f) n s y g =
        tells-visit n s (next y) _ (λ v. tells-step f n s v (visit n) (right f n g) (walk-tells f))

-- a visit that ends the walk where an exact test says yes, and else passes, is right where that test tells of the node
pub right-test : {S N : Type 0} (hit : N → Bool) (add : N → S → S) (Good : ℕ → N → Type 0) (f : ℕ) (n : N)
    (exact : Bool) {g : S → S} → hit n ≡ exact → ((s : S) → g s ≡ add n s)
    → Right hit add Good f n (cond exact finish (pass g))
right-test hit add Good f n true e a = e
right-test hit add Good f n false e a = (e, a)
