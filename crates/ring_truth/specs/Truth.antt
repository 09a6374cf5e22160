-- What IN must answer, demand 2: the word of the plain rule over all original segments, or Undecided.
use Rattle.std.specs.Prelude.{◌≡◌, cond, List, ℕ, suc, ◌<◌, ℤ}
use Rattle.std.proofs.Math.Option.{none}
use Rattle.rules.specs.declared.Point.{Point}
use Rattle.rules.specs.Sheet.{point, segments_of}
use Rattle.rules.specs.Plain.{plain_on, plain_inside}
use Rattle.rules.specs.declared.Word.{Word}
use Rattle.rules.specs.declared.Word.TheVariants.{INSIDE, OUTSIDE, ON}
use Rattle.rules.specs.Reply.{first_refusal}
use Rattle.rules.specs.Questions.{in_checks}
use Rattle.ring_truth.specs.OnEdge.{Lies}

-- z is on a segment
pub record OnSome (ps : List ℤ) (z : Point) : Type 0 where
  pub segment : ℕ
  pub below : segment < segments_of ps
  pub lies : Lies z (point ps segment) (point ps (suc segment))

-- no refusal comes before the walk
abbrev pub InAsked : List ℤ → List ℤ → Point → Type 0
InAsked ps t z = first_refusal (in_checks ps t z) ≡ none

-- on-edge when z is on a segment; else inside when an odd number of segments crosses the ray, else outside
abbrev pub plain_side : List ℤ → Point → Word
plain_side ps z = cond (plain_on ps z) ON (cond (plain_inside ps z) INSIDE OUTSIDE)
