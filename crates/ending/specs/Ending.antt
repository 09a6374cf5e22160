-- How a walk came to its end, in one number: the visits made in the upper half, how it ended in the lower.
use Rattle.std.specs.Prelude.{Option, Some, None}
use Rattle.std.specs.Prelude.{Bool, cond, ℕ, ◌+◌, ◌*◌, ◌-◌, ◌/◌, ◌%◌, ◌^◌, ltb, eqb}
use Rattle.rules.specs.declared.Line.{Line}
use Rattle.rules.specs.declared.Refusal.{Refusal}
use Rattle.rules.specs.declared.Tally.{Tally}
use Rattle.rules.specs.Tree.{most_rows}
use Rattle.rules.specs.Walk.{Walked, ended, over, spent, refused}

-- how it ended has the 32 bits below
abbrev pub half : ℕ
half = 2 ^ 32

abbrev pub packed : ℕ → ℕ → ℕ
packed visits end = visits * half + end

abbrev pub visits_in : ℕ → ℕ
visits_in r = r / half

abbrev pub end_in : ℕ → ℕ
end_in r = r % half

-- ---- how it ended: over with an even or an odd count, a yes or on-edge, spent, a bad row of the first or second line
abbrev pub EVEN : ℕ
EVEN = 0

abbrev pub ODD : ℕ
ODD = 1

abbrev pub ENDED : ℕ
ENDED = 2

abbrev pub SPENT : ℕ
SPENT = 3

abbrev pub bad_row : ℕ
bad_row = 4

abbrev pub bad_second : ℕ
bad_second = bad_row + most_rows

-- no walk ends from here on; that this is below half is all that the numbers have to keep to
abbrev pub past : ℕ
past = bad_second + most_rows

-- a walk that is over, by whether its count is odd, and whether it is
abbrev pub over_at : Bool → ℕ
over_at odd = cond odd ODD EVEN

abbrev pub odd_in : ℕ → Bool
odd_in r = eqb (end_in r) ODD

abbrev pub refusal_at : Line → ℕ → ℕ → Refusal
refusal_at l place visits = record { number = 10; line = l; place = place; visits = visits }

abbrev pub refusal_in : Line → Line → ℕ → Refusal
refusal_in l m r =
    cond (ltb (end_in r) bad_second) (refusal_at l (end_in r - bad_row) (visits_in r))
    (refusal_at m (end_in r - bad_second) (visits_in r))

abbrev pub tally_in : ℕ → ℕ → Tally
tally_in allowance r = record { allowance = allowance; visits = visits_in r }

-- a visit was due that ends the walk like this, if there was one left to make
abbrev pub due : Option Tally → ℕ → ℕ
due (Some v) end = packed v.visits end
due None end = packed 0 SPENT

-- ---- the same in the words of the walk, with the counts that even and odd stand for
unfoldable pub walked_in : {S : Type 0} → S → S → Line → Line → ℕ → ℕ → Walked S
walked_in even odd l m allowance r =
    cond (eqb (end_in r) EVEN) (over even (tally_in allowance r))
    (cond (eqb (end_in r) ODD) (over odd (tally_in allowance r))
    (cond (eqb (end_in r) ENDED) (ended (tally_in allowance r))
    (cond (eqb (end_in r) SPENT) spent (refused (refusal_in l m r)))))
