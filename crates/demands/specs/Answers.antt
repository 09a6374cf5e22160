-- What it means that a question is answered as plain geometry says, and what that is for each of the four questions.
use Rattle.std.specs.Prelude.{◌≡◌, not, cond, List, ℕ, ◌≤◌, ◌<◌, ltb, ℤ}
use Rattle.rules.specs.declared.Line.TheVariants.{LineA, LineB}
use Rattle.rules.specs.declared.Point.{Point}
use Rattle.rules.specs.Sheet.{point, points_of}
use Rattle.rules.specs.Plain.{plain_near, plain_meet}
use Rattle.rules.specs.declared.Word.TheVariants.{YES, NO, UNDECIDED}
use Rattle.rules.specs.declared.Reply.{Reply}
use Rattle.rules.specs.Reply.{says, disagrees}
use Rattle.rules.specs.Build.{lowest}
use Rattle.ring_truth.specs.Truth.{plain_side}

-- There is a number of visits, at most `enough`: with at least so many allowed the reply is what plain geometry says,
-- after exactly so many visits; with fewer it is UNDECIDED, with the allowance as its visits.
pub record Answers (reply plain : ℕ → Reply) (enough : ℕ) : Type 0 where
  pub needs : ℕ
  pub bounded : needs ≤ enough
  pub given : (allowance : ℕ) → needs ≤ allowance → reply allowance ≡ plain needs
  pub undecided : (allowance : ℕ) → allowance < needs → reply allowance ≡ says UNDECIDED allowance

-- ---- what plain geometry says, after v visits
abbrev pub near_plain : List ℤ → Point → ℤ → ℕ → Reply
near_plain ps z D v = says (cond (plain_near ps z D) YES NO) v

abbrev pub meet_plain : List ℤ → List ℤ → ℕ → Reply
meet_plain ps qs v = says (cond (plain_meet ps qs) YES NO) v

abbrev pub in_plain : List ℤ → Point → ℕ → Reply
in_plain ps z v = says (plain_side ps z) v

-- the lowest point of a line that is not NEAR the other; where each one is, the number of its points
abbrev pub first_apart : List ℤ → List ℤ → ℤ → ℕ
first_apart ps qs D = lowest (λ i. not (plain_near qs (point ps i) D)) 0 (points_of ps)

-- AGREE's NO names such a point of A; where A has none, of B
unfoldable pub agree_plain : List ℤ → List ℤ → ℤ → ℕ → Reply
agree_plain ps qs D v =
    let i = first_apart ps qs D in
    let j = first_apart qs ps D in
    cond (ltb i (points_of ps)) (disagrees LineA i v) (cond (ltb j (points_of qs)) (disagrees LineB j v) (says YES v))
