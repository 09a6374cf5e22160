-- The four questions, of any sound table: what decides a question (demand 3) and is never wrong about it (demand 2)
-- answers it. What a reply says beside its word is read off the walk: only a refusal, and AGREE's NO, say more.
use mathlib.Core.Path.{◌≡◌, refl, sym, ◌∙◌, ap}
use mathlib.Core.Bool.{Bool, true, false, cond}
use mathlib.Core.List.{List}
use mathlib.Core.Logic.{◌⊎◌, inl, inr, ⊎_elim, ◌≢◌}
use mathlib.Core.Option.{Option, none}
use Prim.Native.Nat.{ℕ}
use native.Mathlib.Nat.{le_refl}
use lib.Dec.{T}
use lib.IntN.{ℤ}
use Rattle.rules.specs.declared.Line.TheVariants.{LineA}
use Rattle.rules.specs.declared.Point.{Point}
use Rattle.rules.specs.declared.Refusal.{Refusal}
use Rattle.allowance.specs.Enough.{point_enough, pair_enough, agree_enough}
use Rattle.rules.specs.Plain.{plain_near, plain_meet, plain_on, plain_inside}
use Rattle.rules.specs.declared.Word.{Word}
use Rattle.rules.specs.declared.Word.TheVariants.{YES, NO, INSIDE, OUTSIDE, ON, UNDECIDED, REFUSED}
use Rattle.rules.specs.declared.Reply.{Reply}
use Rattle.rules.specs.Reply.{says}
use Rattle.rules.specs.Reply.{first_refusal, or_refused}
use Rattle.rules.specs.Walk.{Walked, ended, over, spent, refused, fresh}
use Rattle.rules.specs.Questions.{Nothing, yes_or_no, near_walk, near_checks, near_reply, meet_walk, meet_checks, meet_reply}
use Rattle.rules.specs.Questions.{side_of_ring, in_walk, in_checks, in_reply}
use Rattle.rules.specs.Questions.{Asked, all_near, not_near, unasked, faulted, agree_walk, agreed, agree_checks, agree_reply}
use Rattle.rules.specs.Build.{sound}
use Rattle.visits.specs.Truthful.{SaysOnly}
use Rattle.visits.proofs.Tests.{never}
use Rattle.allowance.specs.Decides.{Decides}
use Rattle.allowance.proofs.Questions.{near-decides, in-decides, meet-decides, agree_decides}
use Rattle.near_truth.proofs.NearReply.{near-true}
use Rattle.near_truth.proofs.Agree.{AgreeTells, agree-tells}
use Rattle.ring_truth.proofs.Truth.{in-true}
use Rattle.meet_truth.proofs.Truth.{meet-true}
use Rattle.demands.specs.Answers.{Answers, near_plain, meet_plain, in_plain, agree_plain}
use Rattle.demands.proofs.Agreement.{agrees-plain, disagrees-plain}

-- ---------------- what is decided and truthful answers

-- a reply is UNDECIDED, or what plain geometry says after its visits
abbrev Honest : (ℕ → Reply) → Reply → Type 0
Honest plain r = (r.word ≡ UNDECIDED) ⊎ (r ≡ plain r.visits)

-- what is decided, and honest at every allowance, answers: what it needs brings an answer
answers : {reply plain : ℕ → Reply} {enough : ℕ} → Decides reply enough → ((a : ℕ) → Honest plain (reply a))
    → Answers reply plain enough
answers {reply} {plain} d h =
    let found : reply d.needs ≡ d.answer = d.given d.needs (le_refl d.needs) in
    let said : d.answer ≡ plain d.needs =
    ⊎_elim (λ e. absurd (d.decided (sym (ap (λ r. r.word) found) ∙ e)))
    (λ e. sym found ∙ e ∙ ap plain (ap (λ r. r.visits) found ∙ d.counted)) (h d.needs) in
    record { needs = d.needs; bounded = d.bounded; given = λ a l. d.given a l ∙ said; undecided = d.undecided }

-- ---------------- NEAR, MEET, IN

-- a reply is a refusal, or its word and its visits
abbrev Bare : Reply → Type 0
Bare r = (r.word ≡ REFUSED) ⊎ (r ≡ says r.word r.visits)

yes-or-no-bare : (a : ℕ) (w : Walked Nothing) → Bare (yes_or_no a w)
yes-or-no-bare a (ended y) = inr refl
yes-or-no-bare a (over k y) = inr refl
yes-or-no-bare a spent = inr refl
yes-or-no-bare a (refused r) = inl refl

side-bare : (a : ℕ) (w : Walked Bool) → Bare (side_of_ring a w)
side-bare a (ended y) = inr refl
side-bare a (over true y) = inr refl
side-bare a (over false y) = inr refl
side-bare a spent = inr refl
side-bare a (refused r) = inl refl

-- plain geometry refuses nothing
yes-no-given : (b : Bool) → cond b YES NO ≢ REFUSED
yes-no-given true e = never (cc)
yes-no-given false e = never (cc)

side-given : (on inside : Bool) → cond on ON (cond inside INSIDE OUTSIDE) ≢ REFUSED
side-given true inside e = never (cc)
side-given false true e = never (cc)
side-given false false e = never (cc)

-- what is decided, and says only w at every allowance, answers w where its reply is bare once its checks refuse nothing
only-answers : {w : Word} {o : Option Refusal} {reply : ℕ → Reply} {enough : ℕ} → w ≢ REFUSED → o ≡ none
    → Decides (λ a. or_refused o (reply a)) enough → ((a : ℕ) → SaysOnly w (or_refused o (reply a)))
    → ((a : ℕ) → Bare (reply a)) → Answers (λ a. or_refused o (reply a)) (says w) enough
only-answers {w} {o} {reply} given e d only bare =
    answers d λ a.
    let b : Bare (or_refused o (reply a)) = rw e (bare a) in
    ⊎_elim inl (λ f. ⊎_elim (λ r. absurd (given (sym f ∙ r)))
    (λ q. inr (q ∙ ap (λ (u : Word). says u (or_refused o (reply a)).visits) f)) b) (only a)

-- NEAR, of any sound table
pub near-answers : (ps t : List ℤ) (z : Point) (D : ℤ) → T (sound ps t)
    → first_refusal (near_checks ps t z D) ≡ none
    → Answers (near_reply ps t z D) (near_plain ps z D) (point_enough ps)
unfolding near_reply
near-answers ps t z D held e =
    only-answers (yes-no-given (plain_near ps z D)) e (near-decides ps t z D) (λ a. near-true ps t z D a held e)
    (λ a. yes-or-no-bare a (near_walk LineA ps t z D (fresh a)))

-- IN, of any sound table
pub in-answers : (ps t : List ℤ) (z : Point) → T (sound ps t)
    → first_refusal (in_checks ps t z) ≡ none
    → Answers (in_reply ps t z) (in_plain ps z) (point_enough ps)
unfolding in_reply
in-answers ps t z held e =
    only-answers (side-given (plain_on ps z) (plain_inside ps z)) e (in-decides ps t z) (λ a. in-true ps t z a held e)
    (λ a. side-bare a (in_walk ps t z (fresh a)))

-- MEET, of any sound tables
pub meet-answers : (ps t qs t' : List ℤ) → T (sound ps t) → T (sound qs t')
    → first_refusal (meet_checks ps t qs t') ≡ none
    → Answers (meet_reply ps t qs t') (meet_plain ps qs) (pair_enough ps qs)
unfolding meet_reply
meet-answers ps t qs t' held held' e =
    only-answers (yes-no-given (plain_meet ps qs)) e (meet-decides ps t qs t')
    (λ a. meet-true ps t qs t' a held held' e) (λ a. yes-or-no-bare a (meet_walk ps t qs t' (fresh a)))

-- ---------------- AGREE

module _ (ps qs : List ℤ) (D : ℤ) where
  -- what asking tells of both lines is what plain geometry says
  agreed-honest : (a : ℕ) (w : Asked) → AgreeTells ps qs D w → Honest (agree_plain ps qs D) (agreed a w)
  agreed-honest a (all_near y) h = inr (sym (agrees-plain ps qs D y.visits h))
  agreed-honest a (not_near l i y) h = inr (sym (disagrees-plain ps qs D y.visits l i h))
  agreed-honest a unasked h = inl refl
  agreed-honest a (faulted r) h = absurd h

-- AGREE, of any sound tables: a NO names the lowest point that is not NEAR the other line, of A before B
pub agree-answers : (ps t qs t' : List ℤ) (D : ℤ) → T (sound ps t) → T (sound qs t')
    → first_refusal (agree_checks ps t qs t' D) ≡ none
    → Answers (agree_reply ps t qs t' D) (agree_plain ps qs D) (agree_enough ps qs)
unfolding agree_reply
agree-answers ps t qs t' D held held' e =
    answers (agree_decides ps t qs t' D)
    (λ a.
    let w = agree_walk ps t qs t' D (fresh a) in
    rw e (agreed-honest ps qs D a w (agree-tells ps t qs t' D a held held' e (fresh a))))
