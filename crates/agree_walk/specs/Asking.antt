-- What the values of `agree_walk` say, in the words of the definitions.
use Rattle.std.specs.Prelude.{◌≡◌, cond, false, List, ℕ, eqb, ℤ}
use Rattle.rules.specs.declared.Line.{Line}
use Rattle.rules.specs.declared.Refusal.{Refusal}
use Rattle.rules.specs.declared.Tally.{Tally}
use Rattle.rules.specs.Sheet.{points_of, segments_of}
use Rattle.rules.specs.Rows.{ends_good}
use Rattle.rules.specs.Questions.{Asked, all_near, faulted, on_near, ask_all}
use Rattle.visits.specs.Fine.{LengthsFine}
use Rattle.ending.specs.Ending.{past, visits_in, end_in, walked_in}
use Rattle.agree_walk.specs.declared.Stopped.{Stopped}

-- how the asking of a point off the sheet ends, above every bad row's number, and refusal 8 of it
abbrev pub OFF : ℕ
OFF = past

abbrev pub off_sheet : Line → ℕ → ℕ → Refusal
off_sheet line i visits = record { number = 8; line = line; place = i; visits = visits }

-- what asking a line's points against the other line comes to, when it stopped at point i
unfoldable pub asked : Line → Line → ℕ → ℕ → ℕ → Asked
asked line other i allowance r =
    cond (eqb (end_in r) OFF) (faulted (off_sheet line i (visits_in r)))
    (on_near line i (walked_in tt tt other other allowance r) all_near)

-- r tells how the asking of a line's points against the other ends: of k points from i on, when it stopped at one,
abbrev pub Asks : List ℤ → List ℤ → List ℤ → ℤ → ℕ → ℕ → Tally → ℕ → ℕ → Type 0
Asks ps theirs table D i k tally at r =
    (line other : Line) → asked line other at tally.allowance r ≡ ask_all line ps other theirs table D i k tally

-- of them all,
abbrev pub AsksAll : List ℤ → List ℤ → List ℤ → ℤ → Tally → Stopped → Type 0
AsksAll ps theirs table D tally s = Asks ps theirs table D 0 (points_of ps) tally s.at s.ending

-- and of them all against whichever line begins or ends off the sheet
abbrev pub AsksAllOff : List ℤ → Tally → Stopped → Type 0
AsksAllOff ps tally s =
    (theirs table : List ℤ) (D : ℤ) → LengthsFine theirs table → ends_good theirs 0 (segments_of theirs) ≡ false
    → AsksAll ps theirs table D tally s
