-- Demand 3 for the four questions: whatever the points and table lists hold, the allowance decides between one answer
-- and Undecided, and the visits of the rules are enough. An early refusal comes at once, else what is settled is read
-- as a reply.
use mathlib.Core.Path.{◌≡◌, refl, sym, ◌∙◌, ap}
use mathlib.Core.Bool.{Bool, true, false}
use mathlib.Core.List.{List, [], ◌∷◌, ◌++◌}
use mathlib.Core.Logic.{◌≢◌}
use mathlib.Core.Option.{Option, none, some}
use Prim.Native.Nat.{ℕ}
use native.Mathlib.Nat.{zero-add}
use native.Mathlib.Omega.{arith}
use lib.IntN.{ℤ}
use Rattle.integers.specs.Laws.{cond_ind, option-ind}
use Rattle.rules.specs.declared.Refusal.{Refusal}
use Rattle.rules.specs.declared.Tally.{Tally}
use Rattle.rules.specs.declared.Line.{Line}
use Rattle.rules.specs.declared.Line.TheVariants.{LineA, LineB}
use Rattle.rules.specs.declared.Point.{Point}
use Rattle.rules.specs.declared.Word.TheVariants.{UNDECIDED, YES, NO, INSIDE, OUTSIDE, ON}
use Rattle.rules.specs.declared.Reply.{Reply}
use Rattle.rules.specs.Reply.{Check, early, first_refusal, or_refused, refuses, says, disagrees}
use Rattle.rules.specs.Rows.{length_checks, distance_check, asked_check, ring_check}
use Rattle.rules.specs.Walk.{fresh}
use Rattle.rules.specs.Questions.{Nothing, yes_or_no, near_reply, meet_reply, side_of_ring, in_reply, agreed, agree_reply}
use Rattle.visits.proofs.Tests.{never}
use Rattle.visits.proofs.Checks.{some-segment, both-segments}
use Rattle.allowance.specs.Decides.{Decides}
use Rattle.allowance.specs.Enough.{point_enough, pair_enough, agree_enough}
use Rattle.allowance.proofs.Needs.{after, Settled}
use Rattle.allowance.proofs.Walks.{Outcome, hit, through, fault, told}
use Rattle.allowance.proofs.Asking.{near-settled, in-settled, meet-settled, agree-settled, Findings, every_near}
use Rattle.allowance.proofs.Asking.{far_off, faulty, found}

-- ---- what is settled
-- a reply with these visits
abbrev with_visits : ℕ → Reply → Reply
with_visits v r = record { word = r.word; visits = v; number = r.number; line = r.line; place = r.place }

-- what says, at every allowance, one final reply with the visits of the tally
record Speaks (read : ℕ → Tally → Reply) : Type 0 where
  reply : Reply
  final : reply.word ≢ UNDECIDED
  said : (allowance : ℕ) (y : Tally) → read allowance y ≡ with_visits y.visits reply

speaks : (r : Reply) → r.word ≢ UNDECIDED → Speaks (λ allowance y. with_visits y.visits r)
speaks r f = record { reply = r; final = f; said = λ allowance y. refl }

-- what is settled, read as a reply, decides
settled-decides : {R O : Type 0} {stop : R} {told : O → Tally → R} {go : Tally → R} {most : ℕ} (read : ℕ → R → Reply)
    → ((allowance : ℕ) → read allowance stop ≡ says UNDECIDED allowance)
    → ((o : O) → Speaks (λ allowance y. read allowance (told o y))) → Settled stop told go most
    → Decides (λ allowance. read allowance (go (fresh allowance))) most
settled-decides read unsaid spoken w =
    let k = w.needs in
    let s = spoken w.outcome in record {
      needs = k;
      answer = with_visits k s.reply;
      decided = s.final;
      counted = refl;
      bounded = w.bounded;
      given = λ a h.
          ap (read a) (w.exact.given (fresh a) (omega arith)) ∙ s.said a (after k (fresh a))
          ∙ ap (λ v. with_visits v s.reply) (zero-add k);
      undecided = λ a h. ap (read a) (w.exact.short (fresh a) (omega arith) (omega arith)) ∙ unsaid a;
    }

-- ---- early refusals
abbrev visits_of : Option Refusal → ℕ
visits_of none = 0
visits_of (some f) = f.visits

-- an early refusal has no visits
early-visits : (ks : List Check) → visits_of (first_refusal ks) ≡ 0
early-visits [] = refl
early-visits (k ∷ ks) =
    cond_ind k.holds (some (early k)) (first_refusal ks) (λ o. visits_of o ≡ 0) (λ _. refl) (λ _. early-visits ks)

-- a question whose checks come first is decided if it is decided where none of them refuses
checked-decides : (ks : List Check) {reply : ℕ → Reply} {enough : ℕ} → (first_refusal ks ≡ none → Decides reply enough)
    → Decides (λ allowance. or_refused (first_refusal ks) (reply allowance)) enough
checked-decides ks {reply} {enough} d =
    option-ind (λ o. Decides (λ allowance. or_refused o (reply allowance)) enough) (first_refusal ks) d
    (λ f e. record {
      needs = 0;
      answer = refuses f;
      decided = λ e. never (cc);
      counted = sym (ap visits_of e) ∙ early-visits ks;
      bounded = omega arith;
      given = λ a h. refl;
      undecided = λ a h. absurd (omega arith);
    })

-- ---- each reading of an outcome says one final reply
refused-speaks : (number : ℕ) (line : Line) (place : ℕ)
    → Speaks (λ allowance y. refuses (record { number = number; line = line; place = place; visits = y.visits }))
refused-speaks number line place =
    speaks (refuses (record { number = number; line = line; place = place; visits = 0 })) (λ e. never (cc))

yes-or-no-speaks : (o : Outcome Nothing) → Speaks (λ allowance y. yes_or_no allowance (told o y))
yes-or-no-speaks hit = speaks (says YES 0) (λ e. never (cc))
yes-or-no-speaks (through s) = speaks (says NO 0) (λ e. never (cc))
yes-or-no-speaks (fault number line place) = refused-speaks number line place

side-speaks : (o : Outcome Bool) → Speaks (λ allowance y. side_of_ring allowance (told o y))
side-speaks hit = speaks (says ON 0) (λ e. never (cc))
side-speaks (through true) = speaks (says INSIDE 0) (λ e. never (cc))
side-speaks (through false) = speaks (says OUTSIDE 0) (λ e. never (cc))
side-speaks (fault number line place) = refused-speaks number line place

agreed-speaks : (o : Findings) → Speaks (λ allowance y. agreed allowance (found o y))
agreed-speaks every_near = speaks (says YES 0) (λ e. never (cc))
agreed-speaks (far_off l i) = speaks (disagrees l i 0) (λ e. never (cc))
agreed-speaks (faulty number line place) = refused-speaks number line place

-- ---- the questions
-- NEAR is decided by 2n - 1 visits
pub near-decides : (ps t : List ℤ) (z : Point) (D : ℤ) → Decides (near_reply ps t z D) (point_enough ps)
unfolding near_reply
near-decides ps t z D =
    let rest = distance_check D ∷ asked_check z ∷ [] in
    checked-decides (length_checks LineA ps t ++ rest) λ e.
    settled-decides yes_or_no (λ a. refl) yes-or-no-speaks (near-settled LineA ps t z D (some-segment LineA ps t rest e))

-- IN is decided by 2n - 1 visits
pub in-decides : (ps t : List ℤ) (z : Point) → Decides (in_reply ps t z) (point_enough ps)
unfolding in_reply
in-decides ps t z =
    let rest = asked_check z ∷ ring_check LineA ps ∷ [] in
    checked-decides (length_checks LineA ps t ++ rest) λ e.
    settled-decides side_of_ring (λ a. refl) side-speaks (in-settled ps t z (some-segment LineA ps t rest e))

-- MEET is decided by 2nm - 1 visits
pub meet-decides : (ps t qs t' : List ℤ) → Decides (meet_reply ps t qs t') (pair_enough ps qs)
unfolding meet_reply
meet-decides ps t qs t' =
    checked-decides (length_checks LineA ps t ++ length_checks LineB qs t') λ e.
    let one = both-segments ps t qs t' [] e in
    settled-decides yes_or_no (λ a. refl) yes-or-no-speaks (meet-settled ps t qs t' one.0 one.1)

-- AGREE is decided by (n + 1)*(2m - 1) + (m + 1)*(2n - 1) visits
pub agree_decides : (ps t qs t' : List ℤ) (D : ℤ) → Decides (agree_reply ps t qs t' D) (agree_enough ps qs)
unfolding agree_reply
agree_decides ps t qs t' D =
    checked-decides (length_checks LineA ps t ++ length_checks LineB qs t' ++ distance_check D ∷ []) λ e.
    let one = both-segments ps t qs t' (distance_check D ∷ []) e in
    settled-decides agreed (λ a. refl) agreed-speaks (agree-settled ps t qs t' D one.0 one.1)
