-- A record that is no question is answered with refusal 12.
use mathlib.Core.Path.{◌≡◌, refl}
use mathlib.Core.List.{List, [], ◌∷◌}
use Prim.Native.Nat.{ℕ}
use lib.IntN.{ℤ}
use types.Run.{OneOf, miss}
use denote.Enum.Declared.{tag_of}
use Rattle.rules.specs.declared.Line.TheVariants.{NoLine}
use Rattle.words.specs.declared.Record.{Record}
use Rattle.words.specs.declared.Record.TheVariants.{Start, Pt, Near, In, Meet, Agree, NotUnderstood}
use Rattle.words.specs.contracts.Record.{the_type}
use Rattle.desk.specs.Desk.{refused_at}
use Rattle.answers.specs.Asked.{answer_to}

-- LINE, PT and what is not understood, by their places among the records
abbrev others : List ℕ
others = 0 ∷ 1 ∷ 6 ∷ []

pub no-question : (q : Record) → OneOf others (tag_of the_type q) → (place : ℕ) (ps t qs t' : List ℤ)
    → refused_at 12 NoLine place ≡ answer_to q place ps t qs t'
no-question (Start l) h place ps t qs t' = refl
no-question (Pt x y) h place ps t qs t' = refl
no-question (Near x y D allowance) h place ps t qs t' = absurd (miss others 2 tt h)
no-question (In x y allowance) h place ps t qs t' = absurd (miss others 3 tt h)
no-question (Meet allowance) h place ps t qs t' = absurd (miss others 4 tt h)
no-question (Agree D allowance) h place ps t qs t' = absurd (miss others 5 tt h)
no-question NotUnderstood h place ps t qs t' = refl
