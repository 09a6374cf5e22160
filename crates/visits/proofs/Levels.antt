-- One level of the written walk, whatever one visit does, by what the code sees of it.
use Rattle.std.specs.Prelude.{Option, Some, None}
use mathlib.Core.Path.{◌≡◌, refl, sym, ◌∙◌, ap}
use Prim.Native.Nat.{ℕ, zero, suc, pred, ◌<◌}
use native.Mathlib.Nat.{not-suc-le-zero}
use Rattle.rules.specs.declared.Tally.{Tally}
use Rattle.rules.specs.Walk.{next, Visit, halve, Walked, spent, on_visit, go_on, on_step, walk}

module _ {S N : Type 0} (visit : N → Visit S N) (n : N) (s : S) (y : Tally) (f : ℕ) (h : 0 < f) where
  -- what is done with two halves, and with the next tally
  abbrev halves : Tally → N → N → Walked S
  halves v l r = go_on (walk visit (pred f) l s v) (λ s' v'. walk visit (pred f) r s' v')

  abbrev rest : Tally → Walked S
  rest v = on_step (visit n) s v (halves v)

  one-level : walk visit f n s y ≡ on_visit (next y) rest
  unfolding walk
  one-level = go f h
    where
      go : (g : ℕ) → 0 < g → walk visit g n s y ≡ on_visit (next y) λ v.
          on_step (visit n) s v (λ l r. go_on (walk visit (pred g) l s v) (λ s' v'. walk visit (pred g) r s' v'))
      go zero h = absurd (not-suc-le-zero h)
      go (suc g) h = refl

  -- a visit is due and none is left
  pub none_left : next y ≡ None → spent ≡ walk visit f n s y
  none_left e = sym (one-level ∙ ap (λ (m : Option Tally). on_visit m rest) e)

  -- a visit is made
  pub visited : {v : Tally} {w : Visit S N} → next y ≡ Some v → w ≡ visit n
      → on_step w s v (halves v) ≡ walk visit f n s y
  visited {v} e q =
      ap (λ (x : Visit S N). on_step x s v (halves v)) q ∙ sym (one-level ∙ ap (λ (m : Option Tally). on_visit m rest) e)

  -- and it halves: the left half is walked, then, where that is over, the right half
  pub halved : {v : Tally} {l r : N} {w : Walked S} → next y ≡ Some v → halve l r ≡ visit n
      → w ≡ walk visit (pred f) l s v
      → go_on w (λ s' v'. walk visit (pred f) r s' v') ≡ walk visit f n s y
  halved {r} e q p = ap (λ (x : Walked S). go_on x (λ s' v'. walk visit (pred f) r s' v')) p ∙ visited e q
