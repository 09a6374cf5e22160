-- The four questions, of built tables: the checker accepts them.
use mathlib.Core.Path.{◌≡◌}
use mathlib.Core.List.{List, [], ◌∷◌}
use mathlib.Core.Option.{none}
use lib.IntN.{ℤ}
use Rattle.rules.specs.declared.Line.TheVariants.{LineA}
use Rattle.rules.specs.declared.Point.{Point}
use Rattle.allowance.specs.Enough.{point_enough, pair_enough, agree_enough}
use Rattle.rules.specs.Reply.{first_refusal}
use Rattle.rules.specs.Rows.{distance_check, asked_check, ring_check}
use Rattle.rules.specs.Questions.{near_reply, meet_reply, in_reply, agree_reply}
use Rattle.rules.specs.Build.{build_refusal, built_table}
use Rattle.checked.proofs.Sound.{built-accepted}
use Rattle.demands.specs.Answers.{Answers, near_plain, meet_plain, in_plain, agree_plain}
use Rattle.demands.proofs.Accepted.{near-accepted, in-accepted, meet-accepted, agree-accepted}

module _ (ps t : List ℤ) (built : build_refusal ps t ≡ none) where
  -- NEAR, of a built table
  pub near-built : (z : Point) (D : ℤ) → first_refusal (distance_check D ∷ asked_check z ∷ []) ≡ none
      → Answers (near_reply ps (built_table ps t) z D) (near_plain ps z D) (point_enough ps)
  near-built = near-accepted ps (built_table ps t) (built-accepted ps t built)

  -- IN, of a built table
  pub in-built : (z : Point) → first_refusal (asked_check z ∷ ring_check LineA ps ∷ []) ≡ none
      → Answers (in_reply ps (built_table ps t) z) (in_plain ps z) (point_enough ps)
  in-built = in-accepted ps (built_table ps t) (built-accepted ps t built)

  module _ (qs t' : List ℤ) (built' : build_refusal qs t' ≡ none) where
    -- MEET, of built tables: it has no checks of its own
    pub meet-built : Answers (meet_reply ps (built_table ps t) qs (built_table qs t')) (meet_plain ps qs) (pair_enough ps qs)
    meet-built =
        meet-accepted ps (built_table ps t) (built-accepted ps t built) qs (built_table qs t')
        (built-accepted qs t' built')

    -- AGREE, of built tables
    pub agree-built : (D : ℤ) → first_refusal (distance_check D ∷ []) ≡ none
        → Answers (agree_reply ps (built_table ps t) qs (built_table qs t') D) (agree_plain ps qs D) (agree_enough ps qs)
    agree-built =
        agree-accepted ps (built_table ps t) (built-accepted ps t built) qs (built_table qs t')
        (built-accepted qs t' built')
