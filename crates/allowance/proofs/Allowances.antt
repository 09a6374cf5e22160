-- What follows for any question that is decided: once an allowance brings an answer or a refusal, every larger one
-- brings the same; Undecided comes exactly below the visits that the walk needs, and never where enough are allowed.
use mathlib.Core.Path.{◌≡◌, sym, ◌∙◌, ap}
use mathlib.Core.Logic.{◌↔◌, ◌≢◌}
use Prim.Native.Nat.{ℕ, ◌≤◌, ◌<◌}
use native.Mathlib.Omega.{arith}
use Rattle.rules.specs.declared.Word.TheVariants.{UNDECIDED}
use Rattle.rules.specs.declared.Reply.{Reply}
use Rattle.rules.specs.Reply.{says}
use Rattle.allowance.specs.Decides.{Decides}

module _ {reply : ℕ → Reply} {enough : ℕ} (d : Decides reply enough) where
  -- the visits that the walk needs bring it
  needs-suffice : (a : ℕ) → d.needs ≤ a → (reply a).word ≢ UNDECIDED
  needs-suffice a h e = d.decided (sym (ap (λ r. r.word) (d.given a (omega arith))) ∙ e)

  -- the reply is undecided exactly where the walk needs more visits than are allowed ..
  pub undecided-exactly : (a : ℕ) → ((reply a).word ≡ UNDECIDED) ↔ (a < d.needs)
  undecided-exactly a = (
    λ e. let n : ¬ (d.needs ≤ a) = λ h. needs-suffice a h e in omega arith,
    λ h. ap (λ r. r.word) (d.undecided a (omega arith)),
  )

  -- .. and then has the allowance as its visits
  pub undecided-visits : (a : ℕ) → (reply a).word ≡ UNDECIDED → reply a ≡ says UNDECIDED a
  undecided-visits a e = let h = (undecided-exactly a).0 e in d.undecided a (omega arith)

  -- an allowance that brings an answer or a refusal is no less than the walk needs
  needs-least : (a : ℕ) → (reply a).word ≢ UNDECIDED → d.needs ≤ a
  needs-least a h = let n : ¬ (a < d.needs) = λ l. h ((undecided-exactly a).1 l) in omega arith

  -- once one allowance brings an answer or a refusal, every larger one brings the same, after the same number of visits
  pub more-allowance-same-answer : (a b : ℕ) → (reply a).word ≢ UNDECIDED → a ≤ b → reply b ≡ reply a
  more-allowance-same-answer a b h l =
      let n = needs-least a h in d.given b (omega arith) ∙ sym (d.given a (omega arith))
