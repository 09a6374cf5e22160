-- From what a walk tells to what a reply says, for the questions that are answered by yes or no.
use mathlib.Core.Path.{◌≡◌, refl, sym, ap}
use mathlib.Core.Bool.{Bool, true, false, cond}
use mathlib.Core.Logic.{inl, inr}
use mathlib.Core.Option.{Option, none, some}
use Prim.Native.Nat.{ℕ, suc}
use Rattle.rules.specs.declared.Refusal.{Refusal}
use Rattle.rules.specs.declared.Tally.{Tally}
use Rattle.rules.specs.declared.Word.TheVariants.{YES, NO}
use Rattle.rules.specs.declared.Reply.{Reply}
use Rattle.rules.specs.Reply.{or_refused}
use Rattle.rules.specs.Walk.{Visit, Walked, ended, over, spent, refused, walk}
use Rattle.rules.specs.Questions.{Nothing, yes_or_no}
use Rattle.visits.specs.Tells.{Right, Tells}
use Rattle.visits.specs.Truthful.{WalkTruthful, Truthful}
use Rattle.visits.proofs.Told.{walk-tells}

-- ---------------- a walk that counts nothing

module _ {N : Type 0} (visit : N → Visit Nothing N) (Good : ℕ → N → Type 0) (hit : N → Bool)
    (right : (f : ℕ) (n : N) → Good (suc f) n → Right hit (λ m s. s) Good f n (visit n)) where
  tells-truthful : (n : N) (w : Walked Nothing) → Tells hit (λ m s. s) n tt w → WalkTruthful (hit n) w
  tells-truthful n (ended y) h = h
  tells-truthful n (over k y) h = h.0
  tells-truthful n spent h = tt
  tells-truthful n (refused r) h = h

  -- where each visit is right about its own node, the walk is truthful about its first node
  pub walk-truthful : (f : ℕ) (n : N) (y : Tally) → Good f n → WalkTruthful (hit n) (walk visit f n tt y)
  walk-truthful f n y g = tells-truthful n (walk visit f n tt y) (walk-tells visit Good hit (λ m s. s) right f n tt y g)

-- and so is the reply
pub reply-truthful : (b : Bool) (allowance : ℕ) (w : Walked Nothing) → WalkTruthful b w
    → Truthful b (yes_or_no allowance w)
reply-truthful b allowance (ended y) h = inr (ap (λ (c : Bool). cond c YES NO) (sym h))
reply-truthful b allowance (over k y) h = inr (ap (λ (c : Bool). cond c YES NO) (sym h))
reply-truthful b allowance spent h = inl refl
reply-truthful b allowance (refused r) h = absurd h

-- ---------------- what a truthful reply says

-- a YES and a NO are the plain answer
abbrev pub Sure : Bool → Reply → Type 0
Sure b r = (r.word ≡ YES → b ≡ true) × (r.word ≡ NO → b ≡ false)

sure : (b : Bool) (r : Reply) → Truthful b r → Sure b r
sure b r (inl e) = (λ o. cc, λ o. cc)
sure true r (inr e) = (λ _. refl, λ o. cc)
sure false r (inr e) = (λ o. cc, λ _. refl)

-- also of a reply that an early refusal may have taken the place of: that says neither YES nor NO
pub sure-or-refused : (b : Bool) (o : Option Refusal) (r : Reply) → (o ≡ none → Truthful b (or_refused o r))
    → Sure b (or_refused o r)
sure-or-refused b none r h = sure b r (h refl)
sure-or-refused b (some f) r h = (λ o. cc, λ o. cc)
