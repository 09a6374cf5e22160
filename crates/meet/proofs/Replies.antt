-- What MEET replies, by what its checks come to, and what it tells that none refuses.
use mathlib.Core.Path.{◌≡◌, sym, ap}
use mathlib.Core.List.{List}
use mathlib.Core.Option.{Option, none}
use Prim.Native.Nat.{ℕ}
use lib.IntN.{ℤ}
use Rattle.rules.specs.declared.Line.TheVariants.{LineA, LineB}
use Rattle.rules.specs.declared.Refusal.{Refusal}
use Rattle.rules.specs.declared.Reply.{Reply}
use Rattle.rules.specs.Reply.{first_refusal, or_refused}
use Rattle.rules.specs.Rows.{length_checks}
use Rattle.rules.specs.Walk.{fresh}
use Rattle.rules.specs.Questions.{meet_walk, yes_or_no, meet_checks, meet_reply}
use Rattle.visits.specs.Fine.{LengthsFine}
use Rattle.visits.proofs.Checks.{none-clear, clear-parts, lengths_read}

module _ (ps t qs t' : List ℤ) where
  module _ (allowance : ℕ) where
    abbrev pub walk_reply : Reply
    walk_reply = yes_or_no allowance (meet_walk ps t qs t' (fresh allowance))

    pub meet-checked : {o : Option Refusal} → o ≡ first_refusal (meet_checks ps t qs t')
        → or_refused o walk_reply ≡ meet_reply ps t qs t' allowance
    unfolding meet_reply
    meet-checked e = ap (λ (o : Option Refusal). or_refused o walk_reply) e

  -- the lengths of both are fine
  pub meet-fine : none ≡ first_refusal (meet_checks ps t qs t') → LengthsFine ps t × LengthsFine qs t'
  meet-fine e =
      let all = clear-parts (length_checks LineA ps t) (length_checks LineB qs t')
      (none-clear (meet_checks ps t qs t') (sym e)) in
      (lengths_read LineA ps t all.0, lengths_read LineB qs t' all.1)
