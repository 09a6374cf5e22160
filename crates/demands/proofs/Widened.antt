-- The four questions, of an old table that is widened: it is the one that the builder writes.
use mathlib.Core.Path.{◌≡◌, subst}
use mathlib.Core.List.{List, [], ◌∷◌}
use mathlib.Core.Option.{none}
use lib.IntN.{ℤ}
use Rattle.rules.specs.declared.Line.TheVariants.{LineA}
use Rattle.rules.specs.declared.Point.{Point}
use Rattle.allowance.specs.Enough.{point_enough, pair_enough, agree_enough}
use Rattle.rules.specs.Reply.{first_refusal}
use Rattle.rules.specs.Rows.{distance_check, asked_check, ring_check}
use Rattle.rules.specs.Questions.{near_reply, meet_reply, in_reply, agree_reply}
use Rattle.rules.specs.Build.{build_refusal, built_table}
use Rattle.rules.specs.Old.{old_refusal, old_table, widen_refusal, widened}
use Rattle.widen_truth.proofs.Widened.{widened-built}
use Rattle.demands.specs.Answers.{Answers, near_plain, meet_plain, in_plain, agree_plain}
use Rattle.demands.proofs.Built.{near-built, in-built, meet-built, agree-built}

module _ (ps t new : List ℤ) (taken : old_refusal ps t ≡ none) (room : widen_refusal t new ≡ none) where
  -- the old table in 64 bits
  abbrev table : List ℤ
  table = widened (old_table ps t) new

  -- what holds of every built table of the line holds of it
  as-built : (Q : List ℤ → Type 0) → ((u : List ℤ) → build_refusal ps u ≡ none → Q (built_table ps u)) → Q table
  as-built Q f = let w = widened-built ps t new taken room in subst Q w.1 (f (widened t new) w.0)

  pub near-widened : (z : Point) (D : ℤ) → first_refusal (distance_check D ∷ asked_check z ∷ []) ≡ none
      → Answers (near_reply ps table z D) (near_plain ps z D) (point_enough ps)
  near-widened z D e =
      as-built (λ u. Answers (near_reply ps u z D) (near_plain ps z D) (point_enough ps))
      (λ u b. near-built ps u b z D e)

  pub in-widened : (z : Point) → first_refusal (asked_check z ∷ ring_check LineA ps ∷ []) ≡ none
      → Answers (in_reply ps table z) (in_plain ps z) (point_enough ps)
  in-widened z e =
      as-built (λ u. Answers (in_reply ps u z) (in_plain ps z) (point_enough ps)) (λ u b. in-built ps u b z e)

-- two lines: each has its old table, widened
module _ (ps t new : List ℤ) (taken : old_refusal ps t ≡ none) (room : widen_refusal t new ≡ none)
    (qs t' new' : List ℤ) (taken' : old_refusal qs t' ≡ none) (room' : widen_refusal t' new' ≡ none) where
  abbrev table_a : List ℤ
  table_a = table ps t new taken room

  abbrev table_b : List ℤ
  table_b = table qs t' new' taken' room'

  both-built : (Q : List ℤ → List ℤ → Type 0)
      → ((u v : List ℤ) → build_refusal ps u ≡ none → build_refusal qs v ≡ none → Q (built_table ps u) (built_table qs v))
      → Q table_a table_b
  both-built Q f =
      as-built ps t new taken room (λ a. Q a table_b)
      (λ u b. as-built qs t' new' taken' room' (Q (built_table ps u)) (λ v c. f u v b c))

  pub meet-widened : Answers (meet_reply ps table_a qs table_b) (meet_plain ps qs) (pair_enough ps qs)
  meet-widened =
      both-built (λ a b. Answers (meet_reply ps a qs b) (meet_plain ps qs) (pair_enough ps qs))
      (λ u v b c. meet-built ps u b qs v c)

  pub agree-widened : (D : ℤ) → first_refusal (distance_check D ∷ []) ≡ none
      → Answers (agree_reply ps table_a qs table_b D) (agree_plain ps qs D) (agree_enough ps qs)
  agree-widened D e =
      both-built (λ a b. Answers (agree_reply ps a qs b D) (agree_plain ps qs D) (agree_enough ps qs))
      (λ u v b c. agree-built ps u b qs v c D e)
