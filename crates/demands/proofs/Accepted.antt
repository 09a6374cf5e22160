-- The four questions, of tables that the checker accepted, whoever wrote them: such a table is sound and passes the
-- checks of lengths, so that only the question's own checks are left.
use mathlib.Core.Path.{◌≡◌, ◌∙◌}
use mathlib.Core.List.{List, [], ◌∷◌, ◌++◌}
use mathlib.Core.Option.{none}
use lib.IntN.{ℤ}
use Rattle.rules.specs.declared.Line.{Line}
use Rattle.rules.specs.declared.Line.TheVariants.{LineA, LineB}
use Rattle.rules.specs.declared.Point.{Point}
use Rattle.allowance.specs.Enough.{point_enough, pair_enough, agree_enough}
use Rattle.rules.specs.Reply.{Check, first_refusal, or_else}
use Rattle.rules.specs.Rows.{length_checks, distance_check, asked_check, ring_check}
use Rattle.rules.specs.Questions.{near_reply, meet_reply, in_reply, agree_reply}
use Rattle.rules.specs.Check.{check_refusal}
use Rattle.visits.proofs.Checks.{clear_none, lengths-clear, first-append}
use Rattle.table_truth.proofs.Refusals.{buildable}
use Rattle.checked.proofs.Sound.{accepted-buildable, accepted-sound}
use Rattle.demands.specs.Answers.{Answers, near_plain, meet_plain, in_plain, agree_plain}
use Rattle.demands.proofs.Sound.{near-answers, in-answers, meet-answers, agree-answers}

-- an accepted table's lengths refuse nothing, as whichever line ..
lengths-pass : (l : Line) (ps t : List ℤ) → check_refusal ps t ≡ none → first_refusal (length_checks l ps t) ≡ none
lengths-pass l ps t a =
    clear_none (length_checks l ps t) (lengths-clear l ps t (buildable ps t (accepted-buildable ps t a)).lengths)

-- .. and so nothing is refused where the checks after them do not
after-lengths : (l : Line) (ps t : List ℤ) (own : List Check) → check_refusal ps t ≡ none → first_refusal own ≡ none
    → first_refusal (length_checks l ps t ++ own) ≡ none
after-lengths l ps t own a e =
    first-append (length_checks l ps t) own ∙ (λ i. or_else (lengths-pass l ps t a i) (e i))

module _ (ps t : List ℤ) (accepted : check_refusal ps t ≡ none) where
  -- NEAR, of an accepted table
  pub near-accepted : (z : Point) (D : ℤ) → first_refusal (distance_check D ∷ asked_check z ∷ []) ≡ none
      → Answers (near_reply ps t z D) (near_plain ps z D) (point_enough ps)
  near-accepted z D e =
      near-answers ps t z D (accepted-sound ps t accepted)
      (after-lengths LineA ps t (distance_check D ∷ asked_check z ∷ []) accepted e)

  -- IN, of an accepted table
  pub in-accepted : (z : Point) → first_refusal (asked_check z ∷ ring_check LineA ps ∷ []) ≡ none
      → Answers (in_reply ps t z) (in_plain ps z) (point_enough ps)
  in-accepted z e =
      in-answers ps t z (accepted-sound ps t accepted)
      (after-lengths LineA ps t (asked_check z ∷ ring_check LineA ps ∷ []) accepted e)

  module _ (qs t' : List ℤ) (accepted' : check_refusal qs t' ≡ none) where
    -- MEET, of accepted tables: it has no checks of its own
    pub meet-accepted : Answers (meet_reply ps t qs t') (meet_plain ps qs) (pair_enough ps qs)
    meet-accepted =
        meet-answers ps t qs t' (accepted-sound ps t accepted) (accepted-sound qs t' accepted')
        (after-lengths LineA ps t (length_checks LineB qs t') accepted (lengths-pass LineB qs t' accepted'))

    -- AGREE, of accepted tables
    pub agree-accepted : (D : ℤ) → first_refusal (distance_check D ∷ []) ≡ none
        → Answers (agree_reply ps t qs t' D) (agree_plain ps qs D) (agree_enough ps qs)
    agree-accepted D e =
        agree-answers ps t qs t' D (accepted-sound ps t accepted) (accepted-sound qs t' accepted')
        (after-lengths LineA ps t (length_checks LineB qs t' ++ distance_check D ∷ []) accepted
        (after-lengths LineB qs t' (distance_check D ∷ []) accepted' e))
