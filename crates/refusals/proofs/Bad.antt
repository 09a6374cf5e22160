-- A 10 comes exactly where a row that is visited is bad for the range handed down to it; it names the first such row,
-- and its visits are those made.
use mathlib.Core.Path.{◌≡◌, ◌∙◌, ap}
use mathlib.Core.List.{List}
use mathlib.Core.Logic.{◌↔◌, ⊎_elim}
use mathlib.Core.Option.{Option}
use Prim.Native.Nat.{ℕ}
use native.Mathlib.Omega.{arith}
use lib.IntN.{ℤ}
use Rattle.rules.specs.declared.Line.TheVariants.{LineA}
use Rattle.rules.specs.declared.Point.{Point}
use Rattle.rules.specs.declared.Refusal.{Refusal}
use Rattle.rules.specs.Reply.{or_refused}
use Rattle.rules.specs.Walk.{fresh}
use Rattle.rules.specs.Questions.{near_reply, meet_reply, in_reply, Asked, agree_checks, agree_walk, agreed, agree_reply}
use Rattle.refusals.specs.Named.{NearBad, InBad, MeetBad, AgreeBad}
use Rattle.refusals.proofs.First.{after_read}
use Rattle.refusals.proofs.Questions.{near-question, in-question, meet-question, ten-exactly}
use Rattle.refusals.proofs.Asking.{comes-map, fault-agree, other-cause, agree-late, other-late}

-- NEAR
pub near-10-exactly : (ps t : List ℤ) (z : Point) (D : ℤ) (a : ℕ)
    → ((near_reply ps t z D a).number ≡ 10) ↔ NearBad LineA ps t z D (fresh a) (near_reply ps t z D a)
unfolding near_reply
near-10-exactly ps t z D = ten-exactly (near-question ps t z D)

-- IN
pub in-10-exactly : (ps t : List ℤ) (z : Point) (a : ℕ)
    → ((in_reply ps t z a).number ≡ 10) ↔ InBad ps t z (fresh a) (in_reply ps t z a)
unfolding in_reply
in-10-exactly ps t z = ten-exactly (in-question ps t z)

-- MEET, of a pair: A's row or, where that is good, B's
pub meet-10-exactly : (ps t qs t' : List ℤ) (a : ℕ)
    → ((meet_reply ps t qs t' a).number ≡ 10) ↔ MeetBad ps t qs t' (fresh a) (meet_reply ps t qs t' a)
unfolding meet_reply
meet-10-exactly ps t qs t' = ten-exactly (meet-question ps t qs t')

-- AGREE, where the NEAR walk of a point that is asked, which starts with the tally that the points before it left,
-- visits a bad row of the other line
pub agree-10-exactly : (ps t qs t' : List ℤ) (D : ℤ) (a : ℕ)
    → ((agree_reply ps t qs t' D a).number ≡ 10) ↔ AgreeBad ps t qs t' D a (agree_reply ps t qs t' D a)
unfolding agree_reply
agree-10-exactly ps t qs t' D a = (
  after_read 8 10 (agree_checks ps t qs t' D) _ (AgreeBad ps t qs t' D a) tt (omega arith) λ e h.
      ⊎_elim (λ o. absurd (omega (arith, o.1))) (λ b. b.0) (agree-late ps t qs t' D a e 10 (omega arith) h),
  λ h.
      let e = other-late ps t qs t' D a _ h.line h.index h.tally h.has in
      let c = other-cause ps t qs t' D a _ h.line h.index h.tally h.has in
      ap (λ (o : Option Refusal). (or_refused o (agreed a (agree_walk ps t qs t' D (fresh a)))).number) e
      ∙ ap (λ (w : Asked). (agreed a w).number) (fault-agree ps t qs t' D a (comes-map ps t qs t' D a h c.1))
      ∙ c.2,
)
