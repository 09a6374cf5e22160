-- Demand 2 for AGREE: for sound tables of both lines the reply is the plain answer or UNDECIDED, and a NO names the
-- first point that is not NEAR the other line. No point is refused: a sound table holds its points in a box on the
-- sheet.
use mathlib.Core.Path.{◌≡◌, refl, sym, ◌∙◌, ap}
use mathlib.Core.Bool.{Bool, true, false, cond}
use mathlib.Core.List.{List, [], ◌∷◌, ◌++◌}
use mathlib.Core.Logic.{◌↔◌, inl, inr}
use mathlib.Core.Option.{Option, none, some}
use Prim.Native.Nat.{ℕ, zero, suc, ◌+◌, ◌≤◌, ◌<◌}
use native.Mathlib.Decide.{ℕ_discrete}
use native.Mathlib.Omega.{arith}
use lib.Dec.{T, T_not}
use lib.IntN.{ℤ, pos, neg_ℤ}
use mir.Facts.{and_yes, yes_and}
use Rattle.integers.specs.Laws.{cond_ind}
use Rattle.integers.specs.Order.{≤ℤ-trans, T_true, T_false, yes-T, no-T}
use Rattle.rules.specs.declared.Line.{Line}
use Rattle.rules.specs.declared.Line.TheVariants.{NoLine, LineA, LineB}
use Rattle.rules.specs.declared.Refusal.{Refusal}
use Rattle.rules.specs.declared.Tally.{Tally}
use Rattle.rules.specs.Sheet.{point, points_of, segments_of, limit, between, in_sheet, on_sheet}
use Rattle.rules.specs.Plain.{every_of, plain_agree}
use Rattle.rules.specs.declared.Word.TheVariants.{YES, NO}
use Rattle.rules.specs.Reply.{Check, first_refusal, or_refused}
use Rattle.rules.specs.Rows.{length_checks, distance_check}
use Rattle.rules.specs.Walk.{Walked, ended, over, spent, refused, fresh}
use Rattle.rules.specs.Questions.{Nothing, near_walk, Asked, all_near, not_near, unasked, faulted, on_near, ask_all}
use Rattle.rules.specs.Questions.{on_all_near, agree_walk, agreed, agree_reply}
use Rattle.rules.specs.Build.{sound}
use Rattle.visits.specs.Truthful.{WalkTruthful, Truthful}
use Rattle.visits.proofs.Tests.{never}
use Rattle.visits.proofs.Counts.{every_of-read, every_of-make}
use Rattle.visits.proofs.Checks.{both-segments}
use Rattle.visits.proofs.Replies.{Sure, sure-or-refused}
use Rattle.visits.proofs.Held.{Within, number-held, held_number}
use Rattle.visits.proofs.Sound.{root-tree, row_read, row-holds}
use Rattle.near_truth.specs.Reach.{LineReach}
use Rattle.near_truth.specs.First.{First, near_other, AllNear, FirstApart}
use Rattle.near_truth.proofs.NearReply.{near-tells, near-some}

-- ---------------- a sound table's points are on the sheet

-- a number between two of the sheet is one of the sheet
in_between : (lo hi v : ℤ) → T (in_sheet lo) → T (in_sheet hi) → Within lo hi v → T (in_sheet v)
unfolding between
in_between lo hi v l h k =
    let low = number-held (neg_ℤ (pos limit)) (pos limit) lo l in
    let high = number-held (neg_ℤ (pos limit)) (pos limit) hi h in
    held_number (≤ℤ-trans low.0 k.0, ≤ℤ-trans k.1 high.1)

-- the root's box is on the sheet, and holds each point
sound-on-sheet : (ps t : List ℤ) → T (sound ps t) → 1 ≤ segments_of ps
    → (j : ℕ) → j < points_of ps → T (on_sheet (point ps j))
sound-on-sheet ps t held one j below =
    let g = root-tree ps t held one in
    let row = row_read g in
    let k = row-holds g j (omega arith) (omega arith) in
    yes_and (in_sheet (point ps j).x) (in_sheet (point ps j).y)
    (in_between _ _ _ row.xmin-in row.xmax-in k.x) (in_between _ _ _ row.ymin-in row.ymax-in k.y)

-- ---------------- the points of one line against the other

-- what asking tells of the n points of a line l, near j being whether point j is NEAR the other line
abbrev AskTells : Line → (ℕ → Bool) → ℕ → Asked → Type 0
AskTells l near n (all_near y) = (j : ℕ) → j < n → near j ≡ true
AskTells l near n (not_near m i y) = (m ≡ l) × First near n i
AskTells l near n unasked = Unit {0}
AskTells l near n (faulted r) = ⊥

module _ (l : Line) (ps t : List ℤ) (m : Line) (qs t' : List ℤ) (D : ℤ)
    (held : T (sound ps t)) (one : 1 ≤ segments_of ps) (held' : T (sound qs t')) (one' : 1 ≤ segments_of qs) where
  abbrev near : ℕ → Bool
  near = near_other ps qs D

  abbrev Asks : Asked → Type 0
  Asks = AskTells l near (points_of ps)

  -- the points before point i are near
  abbrev Before : ℕ → Type 0
  Before i = (j : ℕ) → j < i → near j ≡ true

  one_more : (i : ℕ) → Before i → near i ≡ true → Before (suc i)
  one_more i before e j h = elim (ℕ_discrete i j) [ yes q ↦ ap near (sym q) ∙ e | no q ↦ before j (omega arith) ]

  -- one point's walk, then the rest
  on-near : (i : ℕ) (w : Walked Nothing) (go : Tally → Asked) → i < points_of ps → Before i → WalkTruthful (near i) w
      → ((y : Tally) → Before (suc i) → Asks (go y)) → Asks (on_near l i w go)
  on-near i (ended y) go b before h rest = rest y (one_more i before h)
  on-near i (over s y) go b before h rest = (refl, record { below = b; apart = h; earlier = before })
  on-near i spent go b before h rest = tt
  on-near i (refused r) go b before h rest = h

  -- asking the k points from i on tells the first point that is not near, or that there is none
  ask-from : (i k : ℕ) (y : Tally) → i + k ≡ points_of ps → Before i → Asks (ask_all l ps m qs t' D i k y)
  unfolding ask_all
  ask-from i zero y e before = λ j b. before j (omega arith)
  ask-from i (suc k) y e before =
      cond_ind (on_sheet (point ps i)) _ _ Asks
      (λ _. on-near i (near_walk m qs t' (point ps i) D y) _ (omega arith) before
      (near-tells m qs t' (point ps i) D held' one' y) (λ v b. ask-from (suc i) k v (omega arith) b))
      (λ off. absurd (T_not (on_sheet (point ps i)) off (sound-on-sheet ps t held one i (omega arith))))

  ask-tells : (y : Tally) → Asks (ask_all l ps m qs t' D 0 (points_of ps) y)
  ask-tells y = ask-from 0 (points_of ps) y (omega arith) (λ j b. absurd (omega arith))

-- the first point that is not near is not near
apart-not : {near : ℕ → Bool} {n i : ℕ} → First near n i → ((j : ℕ) → j < n → near j ≡ true) → ⊥
apart-not {near} {n} {i} f all = T_not (near i) (T_false f.apart) (T_true (all i f.below))

-- ---------------- both ways

-- the plain rule says that each point of the one line is NEAR the other
abbrev every_near : List ℤ → List ℤ → ℤ → Bool
every_near ps qs D = every_of (near_other ps qs D) 0 (points_of ps)

every-all : (ps qs : List ℤ) (D : ℤ) → T (every_near ps qs D) ↔ AllNear ps qs D
every-all ps qs D = (
  λ h j b. yes-T _ (every_of-read (near_other ps qs D) 0 (points_of ps) h j (omega arith) (omega arith)),
  λ f. every_of-make (near_other ps qs D) 0 (points_of ps) (λ j a b. T_true (f j (omega arith))),
)

module _ (ps qs : List ℤ) (D : ℤ) where
  -- where each point is near, the lines agree
  pub every-agree : AllNear ps qs D → AllNear qs ps D → plain_agree ps qs D ≡ true
  unfolding plain_agree
  every-agree f g =
      yes-T _ (yes_and (every_near ps qs D) (every_near qs ps D) ((every-all ps qs D).1 f) ((every-all qs ps D).1 g))

  -- and back
  pub agree-every : plain_agree ps qs D ≡ true → AllNear ps qs D × AllNear qs ps D
  unfolding plain_agree
  agree-every e =
      let h = and_yes (every_near ps qs D) (every_near qs ps D) (T_true e) in
      ((every-all ps qs D).0 h.0, (every-all qs ps D).0 h.1)

  -- AGREE is yes exactly when each point of either line is at most D away from some point of the other line
  pub agree-reach : plain_agree ps qs D ≡ true
      ↔ (((j : ℕ) → j < points_of ps → LineReach qs (point ps j) D)
      × ((j : ℕ) → j < points_of qs → LineReach ps (point qs j) D))
  agree-reach = (
    λ e. (
      λ j b. (near-some qs (point ps j) D).0 ((agree-every e).0 j b),
      λ j b. (near-some ps (point qs j) D).0 ((agree-every e).1 j b),
    ),
    λ f. every-agree (λ j b. (near-some qs (point ps j) D).1 (f.0 j b))
        (λ j b. (near-some ps (point qs j) D).1 (f.1 j b)),
  )

  -- what asking both ways tells
  abbrev pub AgreeTells : Asked → Type 0
  AgreeTells (all_near y) = plain_agree ps qs D ≡ true
  AgreeTells (not_near l i y) = FirstApart ps qs D l i
  AgreeTells unasked = Unit {0}
  AgreeTells (faulted r) = ⊥

  -- B's points, where each point of A is near
  then-B : AllNear ps qs D → (a : Asked) → AskTells LineB (near_other qs ps D) (points_of qs) a → AgreeTells a
  then-B all (all_near y) f = every-agree all f
  then-B all (not_near l i y) f = rw f.0 (all, f.1)
  then-B all unasked f = tt
  then-B all (faulted r) f = f

  -- A's points, then B's
  A-then-B : (a : Asked) (go : Tally → Asked) → AskTells LineA (near_other ps qs D) (points_of ps) a
      → ((y : Tally) → AskTells LineB (near_other qs ps D) (points_of qs) (go y)) → AgreeTells (on_all_near a go)
  A-then-B (all_near y) go f g = then-B f (go y) (g y)
  A-then-B (not_near l i y) go f g = rw f.0 f.1
  A-then-B unasked go f g = tt
  A-then-B (faulted r) go f g = f

  -- where some point is not near, the lines do not agree
  pub apart-disagree : (l : Line) (i : ℕ) → FirstApart ps qs D l i → plain_agree ps qs D ≡ false
  apart-disagree NoLine i f = absurd f
  apart-disagree LineA i f = no-T _ (λ t. apart-not f (agree-every (yes-T _ t)).0)
  apart-disagree LineB i f = no-T _ (λ t. apart-not f.1 (agree-every (yes-T _ t)).1)

  truthful-asked : (a : ℕ) (w : Asked) → AgreeTells w → Truthful (plain_agree ps qs D) (agreed a w)
  truthful-asked a (all_near y) h = inr (ap (λ (c : Bool). cond c YES NO) (sym h))
  truthful-asked a (not_near l i y) h = inr (ap (λ (c : Bool). cond c YES NO) (sym (apart-disagree l i h)))
  truthful-asked a unasked h = inl refl
  truthful-asked a (faulted r) h = absurd h

-- ---------------- the reply

module _ (ps t qs t' : List ℤ) (D : ℤ) (a : ℕ) (held : T (sound ps t)) (held' : T (sound qs t')) where
  abbrev checks : List Check
  checks = length_checks LineA ps t ++ length_checks LineB qs t' ++ distance_check D ∷ []

  pub agree-tells : first_refusal checks ≡ none → (y : Tally) → AgreeTells ps qs D (agree_walk ps t qs t' D y)
  unfolding agree_walk
  agree-tells e y =
      let one = both-segments ps t qs t' (distance_check D ∷ []) e in
      A-then-B ps qs D (ask_all LineA ps LineB qs t' D 0 (points_of ps) y)
      (λ v. ask_all LineB qs LineA ps t D 0 (points_of qs) v)
      (ask-tells LineA ps t LineB qs t' D held one.0 held' one.1 y)
      (λ v. ask-tells LineB qs t' LineA ps t D held' one.1 held one.0 v)

  -- after its checks AGREE replies the plain answer or UNDECIDED, under every allowance, and refuses nothing
  pub agree-true : first_refusal checks ≡ none → Truthful (plain_agree ps qs D) (agree_reply ps t qs t' D a)
  unfolding agree_reply
  agree-true e = rw e (truthful-asked ps qs D a (agree_walk ps t qs t' D (fresh a)) (agree-tells e (fresh a)))

  agree-sure : Sure (plain_agree ps qs D) (agree_reply ps t qs t' D a)
  unfolding agree_reply
  agree-sure = sure-or-refused _ _ _ agree-true

  -- a YES is right
  pub agree-yes : (agree_reply ps t qs t' D a).word ≡ YES → plain_agree ps qs D ≡ true
  agree-yes = agree-sure.0

  -- a NO is right
  pub agree-no : (agree_reply ps t qs t' D a).word ≡ NO → plain_agree ps qs D ≡ false
  agree-no = agree-sure.1

  -- and it names the first point that is not NEAR the other line
  pub agree-names : (agree_reply ps t qs t' D a).word ≡ NO
      → FirstApart ps qs D (agree_reply ps t qs t' D a).line (agree_reply ps t qs t' D a).place
  unfolding agree_reply
  agree-names = go (first_refusal checks) (agree_walk ps t qs t' D (fresh a)) (λ e. agree-tells e (fresh a))
    where
      go : (o : Option Refusal) (w : Asked) → (o ≡ none → AgreeTells ps qs D w) → (or_refused o (agreed a w)).word ≡ NO
          → FirstApart ps qs D (or_refused o (agreed a w)).line (or_refused o (agreed a w)).place
      go none (all_near y) h e = never (cc)
      go none (not_near l i y) h e = h refl
      go none unasked h e = never (cc)
      go none (faulted r) h e = absurd (h refl)
      go (some f) w h e = never (cc)
