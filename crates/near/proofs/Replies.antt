-- What NEAR replies, by what its checks come to, and what it tells that none refuses.
use mathlib.Core.Path.{◌≡◌, sym, ap}
use Rattle.std.specs.Prelude.{T}
use mathlib.Core.List.{List, [], ◌∷◌}
use mathlib.Core.Option.{Option, none}
use Prim.Native.Nat.{ℕ}
use lib.IntN.{ℤ}
use borrow.Author.Tests.{not-false}
use Rattle.integers.specs.Order.{T_true}
use Rattle.rules.specs.declared.Line.TheVariants.{LineA}
use Rattle.rules.specs.declared.Point.{Point}
use Rattle.rules.specs.declared.Refusal.{Refusal}
use Rattle.rules.specs.declared.Reply.{Reply}
use Rattle.rules.specs.Sheet.{on_sheet, distance_fits}
use Rattle.rules.specs.Reply.{first_refusal, or_refused}
use Rattle.rules.specs.Rows.{length_checks, distance_check, asked_check}
use Rattle.rules.specs.Walk.{fresh}
use Rattle.rules.specs.Questions.{near_walk, yes_or_no, near_checks, near_reply}
use Rattle.visits.specs.Fine.{LengthsFine}
use Rattle.visits.proofs.Checks.{none-clear, clear-parts, lengths_read}

module _ (ps t : List ℤ) (z : Point) (D : ℤ) where
  module _ (allowance : ℕ) where
    abbrev pub walk_reply : Reply
    walk_reply = yes_or_no allowance (near_walk LineA ps t z D (fresh allowance))

    pub near-checked : {o : Option Refusal} → o ≡ first_refusal (near_checks ps t z D)
        → or_refused o walk_reply ≡ near_reply ps t z D allowance
    unfolding near_reply
    near-checked e = ap (λ (o : Option Refusal). or_refused o walk_reply) e

  -- the lengths are fine, the distance fits and the point is on the sheet
  pub near-fine : none ≡ first_refusal (near_checks ps t z D)
      → LengthsFine ps t × T (distance_fits D) × T (on_sheet z)
  near-fine e =
      let all = clear-parts (length_checks LineA ps t) (distance_check D ∷ asked_check z ∷ [])
      (none-clear (near_checks ps t z D) (sym e)) in
      (lengths_read LineA ps t all.0, T_true (not-false _ all.1.0), T_true (not-false _ all.1.1.0))
