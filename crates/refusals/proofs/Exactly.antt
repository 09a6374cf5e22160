-- Each question's refusals before its walk, exactly; AGREE's 8, exactly; and that no question has a number above 10.
use mathlib.Core.Path.{◌≡◌, ap, ◌∙◌}
use mathlib.Core.List.{List}
use mathlib.Core.Logic.{◌↔◌, ◌≢◌, ⊎_elim}
use mathlib.Core.Option.{Option}
use Prim.Native.Nat.{ℕ, ◌≤◌, ◌<◌}
use native.Mathlib.Omega.{arith}
use lib.IntN.{ℤ}
use Rattle.rules.specs.declared.Point.{Point}
use Rattle.rules.specs.declared.Refusal.{Refusal}
use Rattle.rules.specs.declared.Reply.{Reply}
use Rattle.rules.specs.Reply.{or_refused, refuses}
use Rattle.rules.specs.Walk.{fresh}
use Rattle.rules.specs.Questions.{near_checks, near_reply, meet_checks, meet_reply, in_checks, in_reply, agree_checks}
use Rattle.rules.specs.Questions.{agree_walk, agreed, agree_reply}
use Rattle.refusals.specs.Reason.{Reason}
use Rattle.refusals.specs.Named.{off_refusal, PointOff}
use Rattle.refusals.proofs.First.{reason-refuses, number-exactly, after_read, number-last}
use Rattle.refusals.proofs.Questions.{near-question, in-question, meet-question, early-exactly, ten-last}
use Rattle.refusals.proofs.Asking.{comes-map, fault-agree, off-cause, agree-late}

-- ---------------- NEAR

module _ (ps t : List ℤ) (z : Point) (D : ℤ) (a : ℕ) where
  -- NEAR replies with a number below 10 exactly if the first of its checks that holds has that number ..
  pub near-exactly : (k : ℕ) → 0 < k → k < 10
      → ((near_reply ps t z D a).number ≡ k) ↔ ((f : Refusal) × Reason (near_checks ps t z D) f × (f.number ≡ k))
  unfolding near_reply
  near-exactly = early-exactly (near-question ps t z D) a

  -- .. and then replies that check's refusal
  pub near-refuses : (f : Refusal) → Reason (near_checks ps t z D) f → near_reply ps t z D a ≡ refuses f
  unfolding near_reply
  near-refuses = reason-refuses (near_checks ps t z D) _

  -- its last number is 10
  pub near-to-10 : (near_reply ps t z D a).number ≤ 10
  unfolding near_reply
  near-to-10 = ten-last (near-question ps t z D) a

-- ---------------- MEET

module _ (ps t qs t' : List ℤ) (a : ℕ) where
  pub meet-exactly : (k : ℕ) → 0 < k → k < 10
      → ((meet_reply ps t qs t' a).number ≡ k) ↔ ((f : Refusal) × Reason (meet_checks ps t qs t') f × (f.number ≡ k))
  unfolding meet_reply
  meet-exactly = early-exactly (meet-question ps t qs t') a

  pub meet-refuses : (f : Refusal) → Reason (meet_checks ps t qs t') f → meet_reply ps t qs t' a ≡ refuses f
  unfolding meet_reply
  meet-refuses = reason-refuses (meet_checks ps t qs t') _

  pub meet-to-10 : (meet_reply ps t qs t' a).number ≤ 10
  unfolding meet_reply
  meet-to-10 = ten-last (meet-question ps t qs t') a

-- ---------------- IN

module _ (ps t : List ℤ) (z : Point) (a : ℕ) where
  pub in-exactly : (k : ℕ) → 0 < k → k < 10
      → ((in_reply ps t z a).number ≡ k) ↔ ((f : Refusal) × Reason (in_checks ps t z) f × (f.number ≡ k))
  unfolding in_reply
  in-exactly = early-exactly (in-question ps t z) a

  pub in-refuses : (f : Refusal) → Reason (in_checks ps t z) f → in_reply ps t z a ≡ refuses f
  unfolding in_reply
  in-refuses = reason-refuses (in_checks ps t z) _

  pub in-to-10 : (in_reply ps t z a).number ≤ 10
  unfolding in_reply
  in-to-10 = ten-last (in-question ps t z) a

-- ---------------- AGREE

module _ (ps t qs t' : List ℤ) (D : ℤ) (a : ℕ) where
  -- AGREE replies with a number below 10, but 8, exactly if the first of its checks that holds has that number ..
  pub agree-exactly : (k : ℕ) → 0 < k → k < 10 → k ≢ 8
      → ((agree_reply ps t qs t' D a).number ≡ k)
      ↔ ((f : Refusal) × Reason (agree_checks ps t qs t' D) f × (f.number ≡ k))
  unfolding agree_reply
  agree-exactly k p q u =
      number-exactly (agree_checks ps t qs t' D) _ k λ e h.
      ⊎_elim (λ o. u o.1) (λ b. omega (arith, b.1)) (agree-late ps t qs t' D a e k p h)

  -- .. and then replies that check's refusal
  pub agree-refuses : (f : Refusal) → Reason (agree_checks ps t qs t' D) f → agree_reply ps t qs t' D a ≡ refuses f
  unfolding agree_reply
  agree-refuses = reason-refuses (agree_checks ps t qs t' D) _

  -- a point off the sheet that the asking comes to is refused, with its line and index and the visits made ..
  pub agree-off-refuses : (h : PointOff ps t qs t' D a)
      → agree_reply ps t qs t' D a ≡ refuses (off_refusal h.at.line h.at.index h.at.tally)
  unfolding agree_reply
  agree-off-refuses h =
      let c = h.at in
      let off = off-cause ps t qs t' D a c.line c.index c.tally c.has in
      ap (λ (o : Option Refusal). or_refused o (agreed a (agree_walk ps t qs t' D (fresh a)))) h.unrefused
      ∙ ap (agreed a) (fault-agree ps t qs t' D a (comes-map ps t qs t' D a c off))

  -- .. and AGREE replies 8 exactly then
  pub agree-8-exactly : ((agree_reply ps t qs t' D a).number ≡ 8) ↔ PointOff ps t qs t' D a
  unfolding agree_reply
  agree-8-exactly = (
    after_read 8 8 (agree_checks ps t qs t' D) _ (λ _. PointOff ps t qs t' D a) tt (omega arith) λ e h.
        ⊎_elim (λ o. o.0) (λ b. absurd (omega (arith, b.1))) (agree-late ps t qs t' D a e 8 (omega arith) h),
    λ h. ap (λ (q : Reply). q.number) (agree-off-refuses h),
  )

  pub agree-to-10 : (agree_reply ps t qs t' D a).number ≤ 10
  unfolding agree_reply
  agree-to-10 =
      number-last 10 (agree_checks ps t qs t' D) _ tt λ e k p h.
      ⊎_elim (λ o. omega (arith, o.1)) (λ b. omega (arith, b.1)) (agree-late ps t qs t' D a e k p h)
