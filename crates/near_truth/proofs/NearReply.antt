-- Demand 2 for NEAR. A dismissed node holds no segment within D, so each visit is right about its own node, and the
-- walk about the whole line; for every table that is sound the reply is the plain answer or UNDECIDED, and the plain
-- answer is whether some point of the line is at most D away.
use mathlib.Core.Path.{◌≡◌, refl, subst}
use mathlib.Core.Bool.{Bool, true, false, ◌||◌}
use mathlib.Core.List.{List, [], ◌∷◌, ◌++◌}
use mathlib.Core.Logic.{◌↔◌}
use mathlib.Core.Option.{none}
use Prim.Native.Nat.{ℕ, suc, ◌≤◌}
use native.Mathlib.Omega.{arith}
use lib.Dec.{T}
use lib.IntN.{ℤ}
use Rattle.integers.specs.Order.{T_true, yes-T}
use Rattle.rules.specs.declared.Line.{Line}
use Rattle.rules.specs.declared.Line.TheVariants.{LineA}
use Rattle.rules.specs.declared.Node.{Node}
use Rattle.rules.specs.declared.Point.{Point}
use Rattle.rules.specs.declared.Tally.{Tally}
use Rattle.rules.specs.Sheet.{point, segments_of}
use Rattle.rules.specs.Tree.{row_at}
use Rattle.rules.specs.Plain.{within, segment_within, plain_near}
use Rattle.rules.specs.declared.Word.TheVariants.{YES, NO}
use Rattle.rules.specs.Reply.{first_refusal}
use Rattle.rules.specs.Rows.{length_checks, distance_check, asked_check}
use Rattle.rules.specs.Walk.{fresh}
use Rattle.rules.specs.Questions.{Nothing, root, start_of, heading_of, far_from, near_visit, near_walk, near_reply}
use Rattle.rules.specs.Build.{sound}
use Rattle.visits.specs.Truthful.{WalkTruthful, Truthful}
use Rattle.visits.proofs.Tests.{no-exactly}
use Rattle.visits.proofs.Counts.{some_of-make, some_of-read}
use Rattle.visits.proofs.Checks.{some-segment}
use Rattle.visits.proofs.Runs.{some-none, joined-root}
use Rattle.visits.proofs.Replies.{walk-truthful, reply-truthful, Sure, sure-or-refused}
use Rattle.visits.proofs.Sound.{SoundTree, root-tree, row-holds}
use Rattle.visits.proofs.Visits.{some_tested, RightNode, right-node}
use Rattle.near_truth.specs.Reach.{LineReach}
use Rattle.near_truth.proofs.Within.{reach-of-within, within-of-reach}
use Rattle.near_truth.proofs.Dismiss.{far-not-within}

-- ---------------- the walk

module _ (l : Line) (ps t : List ℤ) (z : Point) (D : ℤ) where
  -- the exact test of a segment; NEAR counts nothing
  abbrev test : Point → Point → Bool
  test a b = within z a b D

  abbrev nothing : Node → Nothing → Nothing
  nothing n s = s

  -- the visit is right about its node: a dismissed one has no segment within D
  right : (f : ℕ) (n : Node) → SoundTree ps t n → RightNode ps t test nothing f n (near_visit l ps t z D n)
  unfolding near_visit
  right f n g =
      let r = row_at t n.row in
      right-node ps t test nothing l f n g (far_from r (start_of ps n) (heading_of ps n) z D) (λ k. k)
      (λ far. (
        some-none (segment_within ps z D) n
            (λ j a b. far-not-within r (start_of ps n) (heading_of ps n) z (point ps j) (point ps (suc j)) D
            (row-holds g j a (omega arith)) (row-holds g (suc j) (omega arith) b) far),
        λ s. refl,
      ))
      (λ _ s. refl) (λ _ _ _ s. refl)

  -- the walk ends where some segment is within D, is over where none is, and is never refused
  pub near-tells : T (sound ps t) → 1 ≤ segments_of ps → (y : Tally)
      → WalkTruthful (plain_near ps z D) (near_walk l ps t z D y)
  unfolding plain_near
  near-tells held some y =
      subst (λ (b : Bool). WalkTruthful b (near_walk l ps t z D y)) (joined-root ◌||◌ false (segment_within ps z D) ps)
      (walk-truthful (near_visit l ps t z D) (λ f. SoundTree ps t) (some_tested ps t test nothing) right (segments_of ps)
      (root ps) y (root-tree ps t held some))

-- ---------------- the reply

module _ (ps t : List ℤ) (z : Point) (D : ℤ) (a : ℕ) (held : T (sound ps t)) where
  -- after its checks NEAR replies the plain answer or UNDECIDED, under every allowance, and refuses nothing
  pub near-true : first_refusal (length_checks LineA ps t ++ distance_check D ∷ asked_check z ∷ []) ≡ none
      → Truthful (plain_near ps z D) (near_reply ps t z D a)
  unfolding near_reply
  near-true e =
      rw e (reply-truthful (plain_near ps z D) a (near_walk LineA ps t z D (fresh a))
      (near-tells LineA ps t z D held (some-segment LineA ps t (distance_check D ∷ asked_check z ∷ []) e) (fresh a)))

  near-sure : Sure (plain_near ps z D) (near_reply ps t z D a)
  unfolding near_reply
  near-sure = sure-or-refused _ _ _ near-true

  -- a YES is right
  pub near-yes : (near_reply ps t z D a).word ≡ YES → plain_near ps z D ≡ true
  near-yes = near-sure.0

  -- a NO is right
  pub near-no : (near_reply ps t z D a).word ≡ NO → plain_near ps z D ≡ false
  near-no = near-sure.1

-- ---------------- the plain answer, in points of the line

module _ (ps : List ℤ) (z : Point) (D : ℤ) where
  -- NEAR is yes exactly when some point of the line is at most D away
  pub near-some : plain_near ps z D ≡ true ↔ LineReach ps z D
  unfolding plain_near
  near-some = (
    λ e. let s = some_of-read (segment_within ps z D) 0 (segments_of ps) e in
        record { segment = s.0; of-line = omega (arith, s.2); reach = reach-of-within z _ _ D (T_true s.3) },
    λ r. some_of-make (segment_within ps z D) 0 (segments_of ps) r.segment (omega arith) (omega (arith, r.of-line))
        (yes-T _ (within-of-reach z _ _ D r.reach)),
  )

  -- and no exactly when no point of the line is
  pub near_none : plain_near ps z D ≡ false ↔ ¬ LineReach ps z D
  near_none = no-exactly (plain_near ps z D) near-some
