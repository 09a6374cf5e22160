-- docs/RULES.md, section 6: the word, visits, refusal number or 0, line A, B or none, and place or 0 of an answer.
-- The order in which refusals are checked is the order of a list.
use Rattle.std.specs.Prelude.{Bool, cond, List, [], ◌∷◌, ℕ, Result, Ok, Err}
use Rattle.std.proofs.Math.Option.{Option, none, some}
use Rattle.rules.specs.declared.Line.{Line}
use Rattle.rules.specs.declared.Line.TheVariants.{NoLine}
use Rattle.rules.specs.declared.Refusal.{Refusal}
use Rattle.rules.specs.declared.Word.{Word}
use Rattle.rules.specs.declared.Word.TheVariants.{NO, REFUSED}
use Rattle.rules.specs.declared.Reply.{Reply}

-- only REFUSED and AGREE's NO fill the last two
abbrev pub says : Word → ℕ → Reply
says w v = record { word = w; visits = v; number = 0; line = NoLine; place = 0 }

abbrev pub disagrees : Line → ℕ → ℕ → Reply
disagrees l i v = record { word = NO; visits = v; number = 0; line = l; place = i }

abbrev pub refuses : Refusal → Reply
refuses r = record { word = REFUSED; visits = r.visits; number = r.number; line = r.line; place = r.place }

-- ---- what checks come to: the refusal, if there is one
abbrev pub checked_refusal : Result Unit Refusal → Option Refusal
checked_refusal (Ok done) = none
checked_refusal (Err r) = some r

-- ---- numbered refusals, in the order checked: the first reason that holds decides, before any visit
pub record Check : Type 0 where
  pub holds : Bool
  pub number : ℕ
  pub line : Line
  pub place : ℕ

abbrev pub early : Check → Refusal
early k = record { number = k.number; line = k.line; place = k.place; visits = 0 }

abbrev pub first_refusal : List Check → Option Refusal
first_refusal [] = none
first_refusal (k ∷ ks) = cond k.holds (some (early k)) (first_refusal ks)

-- what one option says, or else the other
abbrev pub or_else : {A : Type 0} → Option A → Option A → Option A
or_else none r = r
or_else (some a) r = some a

abbrev pub or_refused : Option Refusal → Reply → Reply
or_refused none r = r
or_refused (some f) r = refuses f
