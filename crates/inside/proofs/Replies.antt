-- What IN replies, by what its checks come to, and what it tells that none refuses.
use Rattle.std.specs.Prelude.{T}
use mathlib.Core.Path.{◌≡◌, sym, ap}
use mathlib.Core.List.{List, [], ◌∷◌}
use mathlib.Core.Option.{Option, none}
use Prim.Native.Nat.{ℕ}
use lib.IntN.{ℤ}
use borrow.Author.Tests.{not-false}
use Rattle.integers.specs.Order.{T_true}
use Rattle.rules.specs.declared.Line.TheVariants.{LineA}
use Rattle.rules.specs.declared.Point.{Point}
use Rattle.rules.specs.declared.Refusal.{Refusal}
use Rattle.rules.specs.declared.Reply.{Reply}
use Rattle.rules.specs.Sheet.{on_sheet}
use Rattle.rules.specs.Reply.{first_refusal, or_refused}
use Rattle.rules.specs.Rows.{length_checks, asked_check, ring_check}
use Rattle.rules.specs.Walk.{fresh}
use Rattle.rules.specs.Questions.{in_walk, side_of_ring, in_checks, in_reply}
use Rattle.visits.specs.Fine.{LengthsFine}
use Rattle.visits.proofs.Checks.{none-clear, clear-parts, lengths_read}

module _ (ps t : List ℤ) (z : Point) where
  module _ (allowance : ℕ) where
    abbrev walk_reply : Reply
    walk_reply = side_of_ring allowance (in_walk ps t z (fresh allowance))

    pub in-checked : {o : Option Refusal} → o ≡ first_refusal (in_checks ps t z)
        → or_refused o walk_reply ≡ in_reply ps t z allowance
    unfolding in_reply
    in-checked e = ap (λ (o : Option Refusal). or_refused o walk_reply) e

  -- the lengths are fine and the point is on the sheet
  pub in-fine : none ≡ first_refusal (in_checks ps t z) → LengthsFine ps t × T (on_sheet z)
  in-fine e =
      let all = clear-parts (length_checks LineA ps t) (asked_check z ∷ ring_check LineA ps ∷ [])
      (none-clear (in_checks ps t z) (sym e)) in (lengths_read LineA ps t all.0, T_true (not-false _ all.1.0))
