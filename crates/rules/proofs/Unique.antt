-- The promise `checked_refusal r ≡ definition` allows one outcome alone: from the refusal or none the answer can be read
-- back.
use mathlib.Core.Path.{◌≡◌, refl, sym, ◌∙◌, ap}
use mathlib.Core.Option.{Option, none, some}
use Rattle.std.specs.Prelude.{Result, Ok, Err}
use Rattle.rules.specs.declared.Refusal.{Refusal}
use Rattle.rules.specs.Reply.{checked_refusal}

-- what can be read back is said by one value alone
pub said-once : {A B : Type 0} (say : A → B) (back : B → A) → ((a : A) → back (say a) ≡ a) → (a b : A)
    → say a ≡ say b → a ≡ b
said-once say back law a b e = sym (law a) ∙ ap back e ∙ law b

checked_back : Option Refusal → Result Unit Refusal
checked_back none = Ok tt
checked_back (some r) = Err r

checked-back : (a : Result Unit Refusal) → checked_back (checked_refusal a) ≡ a
unfolding checked_back
checked-back (Ok tt) = refl
checked-back (Err r) = refl

pub checked-unique : (a b : Result Unit Refusal) → checked_refusal a ≡ checked_refusal b → a ≡ b
checked-unique = said-once checked_refusal checked_back checked-back
