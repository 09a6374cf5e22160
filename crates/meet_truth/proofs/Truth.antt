-- Demand 2 for MEET: under every allowance the walk over two sound tables tells whether some segment of A and some of B
-- share a point, and refuses nothing.
use mathlib.Core.Path.{◌≡◌, refl, sym, ◌∙◌, ap, subst}
use mathlib.Core.Bool.{Bool, cond, ◌&&◌, ◌||◌}
use mathlib.Core.List.{List, [], ◌++◌}
use mathlib.Core.Logic.{◌⊎◌, ⊎_elim}
use mathlib.Core.Option.{none}
use Prim.Native.Nat.{ℕ, suc, ◌+◌, ◌≤◌, ◌<◌}
use native.Mathlib.Nat.{sub-zero}
use native.Mathlib.Omega.{arith}
use lib.Dec.{T, leb, leb→le, nleb→lt}
use lib.IntN.{ℤ}
use mir.Facts.{and_yes}
use Rattle.integers.specs.Laws.{cond_ind}
use Rattle.rules.specs.declared.Line.TheVariants.{LineA, LineB}
use Rattle.rules.specs.declared.Node.{Node}
use Rattle.rules.specs.declared.Pair.{Pair}
use Rattle.rules.specs.declared.Tally.{Tally}
use Rattle.rules.specs.Sheet.{point, segments_of}
use Rattle.rules.specs.Plain.{some_of, segments_share, plain_meet}
use Rattle.rules.specs.declared.Word.{Word}
use Rattle.rules.specs.declared.Word.TheVariants.{YES, NO, UNDECIDED}
use Rattle.rules.specs.Reply.{first_refusal}
use Rattle.rules.specs.Rows.{length_checks}
use Rattle.rules.specs.Walk.{Visit, finish, pass, halve, fresh}
use Rattle.rules.specs.Questions.{root, leaf, size, left_of, right_of, Nothing}
use Rattle.rules.specs.Questions.{meet_visit, meet_walk, meet_checks, meet_reply}
use Rattle.rules.specs.Build.{sound}
use Rattle.visits.specs.Tells.{Right}
use Rattle.visits.specs.Truthful.{WalkTruthful, Truthful}
use Rattle.visits.proofs.Runs.{some-none}
use Rattle.visits.proofs.Checks.{none-clear, clear_none, clear-parts, clear_whole, both-segments}
use Rattle.visits.proofs.Told.{right-test}
use Rattle.visits.proofs.Nodes.{larger-opens, other-opens}
use Rattle.visits.proofs.Replies.{walk-truthful, reply-truthful, Sure, sure-or-refused}
use Rattle.visits.proofs.Sound.{SoundTree, root-tree, row-good, row-holds, leaf-next, split_at, low, high}
use Rattle.visits.proofs.Sound.{left-tree, right-tree}
use Rattle.visits.proofs.Visits.{with_a, with_b, pair_apart, pair_shares}
use Rattle.meet_truth.specs.Meeting.{LinesMeet}
use Rattle.meet_truth.proofs.Dismissed.{apart_none}
use Rattle.meet_truth.proofs.Plain.{some_shared, shared-halves-A, shared-halves-B, shared-leaves}
use Rattle.meet_truth.proofs.Plain.{meet-some, meet-none, plain_meet-swaps}

-- ---------------- a pair of nodes

module _ (ps t qs t' : List ℤ) where
  -- two nodes of sound tables
  record SoundPair (n : Pair) : Type 0 where
    in-A : SoundTree ps t n.a
    in-B : SoundTree qs t' n.b

  -- what a visit must do at a pair of nodes to be right about it
  abbrev RightAt : ℕ → Pair → Visit Nothing Pair → Type 0
  RightAt = Right (some_shared ps qs) (λ m s. s) (λ f. SoundPair)

  module _ (f : ℕ) (n : Pair) (g : SoundPair n) where
    -- a dismissed pair shares nothing
    right-dismissed : T (pair_apart ps t qs t' n) → RightAt f n (pass (λ k. k))
    right-dismissed h = (
      some-none _ n.a (λ i l m. some-none _ n.b (λ j l' m'.
          apart_none _ _ _ _ _ _ (point ps i) (point ps (suc i)) (point qs j) (point qs (suc j))
          (row-holds g.in-A i l (omega arith)) (row-holds g.in-A (suc i) (omega arith) m)
          (row-holds g.in-B j l' (omega arith)) (row-holds g.in-B (suc j) (omega arith) m') h)),
      λ s. refl,
    )

    -- two leaves share what the exact test says
    right-leaves : T (leaf n.a && leaf n.b) → RightAt f n (cond (pair_shares ps qs n) finish (pass (λ k. k)))
    right-leaves h =
        let k = and_yes (leaf n.a) (leaf n.b) h in
        right-test (some_shared ps qs) (λ m s. s) (λ f. SoundPair) f n (pair_shares ps qs n)
        (shared-leaves ps qs n (leaf-next g.in-A (leb→le _ _ k.0)) (leaf-next g.in-B (leb→le _ _ k.1)))
        (λ s. refl)

    -- the halves of a node of two segments or more, put in its place
    right-halves : {rs u : List ℤ} {m : Node} (put : Node → Pair) (k : SoundTree rs u m)
        → ((h : Node) → SoundTree rs u h → SoundPair (put h))
        → ((s : ℕ) → m.first < s → s < m.last
        → some_shared ps qs n ≡ some_shared ps qs (put (left_of m s)) || some_shared ps qs (put (right_of m s)))
        → m.first + 1 < m.last
        → RightAt f n (halve (put (left_of m (split_at k))) (put (right_of m (split_at k))))
    right-halves put k sound-put halves more = (
      sound-put _ (left-tree k more),
      sound-put _ (right-tree k more),
      halves (split_at k) (low k more) (high k more),
      λ s. refl,
    )

    -- every visit is right: the node that splits has two segments or more
    right-pair : RightAt f n (meet_visit ps t qs t' n)
    unfolding meet_visit
    right-pair =
        rw (row-good g.in-A, row-good g.in-B)
        (cond_ind (pair_apart ps t qs t' n) _ _ (RightAt f n) right-dismissed
        (λ _. cond_ind (leaf n.a && leaf n.b) _ _ (RightAt f n) right-leaves
        (λ h. cond_ind (leb (size n.b) (size n.a)) _ _ (RightAt f n)
        (λ w. right-halves (with_a n) g.in-A (λ m k. record { in-A = k; in-B = g.in-B })
        (shared-halves-A ps qs n) (larger-opens n.a n.b h (leb→le _ _ w)))
        (λ w. right-halves (with_b n) g.in-B (λ m k. record { in-A = g.in-A; in-B = k })
        (shared-halves-B ps qs n) (other-opens n.a n.b h (nleb→lt (size n.b) (size n.a) w))))))

  -- what the walk tells of both lines: the runs of both roots are the whole lines
  meet-tells : T (sound ps t) → T (sound qs t') → 1 ≤ segments_of ps → 1 ≤ segments_of qs → (y : Tally)
      → WalkTruthful (plain_meet ps qs) (meet_walk ps t qs t' y)
  unfolding plain_meet
  meet-tells sound-A sound-B some-A some-B y =
      subst (λ (b : Bool). WalkTruthful b (meet_walk ps t qs t' y))
      (λ i. some_of (λ x. some_of (segments_share ps qs x) 0 (sub-zero (segments_of qs) i)) 0 (sub-zero (segments_of ps) i))
      (walk-truthful (meet_visit ps t qs t') (λ f. SoundPair) (some_shared ps qs) right-pair
      (segments_of ps + segments_of qs) (record { a = root ps; b = root qs }) y
      (record { in-A = root-tree ps t sound-A some-A; in-B = root-tree qs t' sound-B some-B }))

-- ---------------- the reply

-- DEMAND 2 FOR MEET: of two sound tables the answer is undecided, or yes where some segments share a point and no
-- where none do
pub meet-true : (ps t qs t' : List ℤ) (allowance : ℕ) → T (sound ps t) → T (sound qs t')
    → first_refusal (length_checks LineA ps t ++ length_checks LineB qs t') ≡ none
    → Truthful (plain_meet ps qs) (meet_reply ps t qs t' allowance)
unfolding meet_reply
meet-true ps t qs t' allowance sa sb e =
    let one = both-segments ps t qs t' [] e in
    rw e (reply-truthful (plain_meet ps qs) allowance (meet_walk ps t qs t' (fresh allowance))
    (meet-tells ps t qs t' sa sb one.0 one.1 (fresh allowance)))

module _ (ps t qs t' : List ℤ) (allowance : ℕ) (sound-A : T (sound ps t)) (sound-B : T (sound qs t')) where
  meet-sure : Sure (plain_meet ps qs) (meet_reply ps t qs t' allowance)
  unfolding meet_reply
  meet-sure = sure-or-refused _ _ _ (meet-true ps t qs t' allowance sound-A sound-B)

  -- a YES tells of two segments that share a point
  pub meet-yes : (meet_reply ps t qs t' allowance).word ≡ YES → LinesMeet ps qs
  meet-yes h = (meet-some ps qs).0 (meet-sure.0 h)

  -- a NO tells that no two do
  pub meet-no : (meet_reply ps t qs t' allowance).word ≡ NO → LinesMeet ps qs → ⊥
  meet-no h = (meet-none ps qs).0 (meet-sure.1 h)

-- the checks do not depend on which line is A
unrefused-swaps : (ps t qs t' : List ℤ) → first_refusal (length_checks LineA ps t ++ length_checks LineB qs t') ≡ none
    → first_refusal (length_checks LineA qs t' ++ length_checks LineB ps t) ≡ none
unrefused-swaps ps t qs t' e =
    let c = clear-parts (length_checks LineA ps t) (length_checks LineB qs t') (none-clear (meet_checks ps t qs t') e) in
    clear_none (meet_checks qs t' ps t)
    (clear_whole (length_checks LineA qs t') (length_checks LineB ps t) c.1 c.0)

-- with A and B exchanged, two decided answers are the same word
pub meet-swaps : (ps t qs t' : List ℤ) (allowance allowance' : ℕ) → T (sound ps t) → T (sound qs t')
    → first_refusal (length_checks LineA ps t ++ length_checks LineB qs t') ≡ none
    → ((meet_reply ps t qs t' allowance).word ≡ UNDECIDED → ⊥) → ((meet_reply qs t' ps t allowance').word ≡ UNDECIDED → ⊥)
    → (meet_reply ps t qs t' allowance).word ≡ (meet_reply qs t' ps t allowance').word
meet-swaps ps t qs t' allowance allowance' sa sb e d d' =
    decided (meet-true ps t qs t' allowance sa sb e) d
    ∙ ap (λ (b : Bool). cond b YES NO) (plain_meet-swaps ps qs)
    ∙ sym (decided (meet-true qs t' ps t allowance' sb sa (unrefused-swaps ps t qs t' e)) d')
  where
    decided : {v w : Word} → (v ≡ UNDECIDED) ⊎ (v ≡ w) → (v ≡ UNDECIDED → ⊥) → v ≡ w
    decided h d = ⊎_elim (λ u. absurd (d u)) (λ e. e) h
