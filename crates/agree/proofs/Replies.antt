-- What AGREE replies, by what its checks come to, and what it tells that none refuses.
use Rattle.std.specs.Prelude.{T}
use mathlib.Core.Path.{◌≡◌, sym, ap}
use mathlib.Core.List.{List, [], ◌∷◌, ◌++◌}
use mathlib.Core.Option.{Option, none}
use Prim.Native.Nat.{ℕ}
use lib.IntN.{ℤ}
use borrow.Author.Tests.{not-false}
use Rattle.integers.specs.Order.{T_true}
use Rattle.rules.specs.declared.Line.TheVariants.{LineA, LineB}
use Rattle.rules.specs.declared.Refusal.{Refusal}
use Rattle.rules.specs.declared.Reply.{Reply}
use Rattle.rules.specs.Sheet.{distance_fits}
use Rattle.rules.specs.Reply.{first_refusal, or_refused}
use Rattle.rules.specs.Rows.{length_checks, distance_check}
use Rattle.rules.specs.Walk.{fresh}
use Rattle.rules.specs.Questions.{agreed, agree_walk, agree_checks, agree_reply}
use Rattle.visits.specs.Fine.{LengthsFine}
use Rattle.visits.proofs.Checks.{none-clear, clear-parts, lengths_read}

module _ (ps t qs t' : List ℤ) (D : ℤ) where
  module _ (allowance : ℕ) where
    abbrev pub walks_reply : Reply
    walks_reply = agreed allowance (agree_walk ps t qs t' D (fresh allowance))

    pub agree-checked : {o : Option Refusal} → o ≡ first_refusal (agree_checks ps t qs t' D)
        → or_refused o walks_reply ≡ agree_reply ps t qs t' D allowance
    unfolding agree_reply
    agree-checked e = ap (λ (o : Option Refusal). or_refused o walks_reply) e

  -- the lengths of both are fine, and the distance fits
  pub agree-fine : none ≡ first_refusal (agree_checks ps t qs t' D)
      → LengthsFine ps t × LengthsFine qs t' × T (distance_fits D)
  agree-fine e =
      let of-B = length_checks LineB qs t' in
      let all = clear-parts (length_checks LineA ps t) (of-B ++ distance_check D ∷ [])
      (none-clear (agree_checks ps t qs t' D) (sym e)) in
      let rest = clear-parts of-B (distance_check D ∷ []) all.1 in
      (lengths_read LineA ps t all.0, lengths_read LineB qs t' rest.0, T_true (not-false _ rest.1.0))
