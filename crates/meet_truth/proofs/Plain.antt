-- The plain answer of MEET, of two nodes and of two lines: whether some segment of the one and some of the other
-- share a point. That of two nodes is that of the halves of either, and of two leaves the exact test; no answer
-- depends on which line is asked first.
use mathlib.Core.Path.{◌≡◌, sym, ◌∙◌}
use mathlib.Core.Bool.{Bool, true, false, ◌||◌}
use mathlib.Core.List.{List}
use mathlib.Core.Logic.{◌↔◌}
use Prim.Native.Nat.{ℕ, suc, ◌<◌}
use native.Mathlib.Omega.{arith}
use lib.Dec.{T}
use lib.IntN.{ℤ}
use Rattle.integers.specs.Order.{T_true, T-iff, yes-T}
use Rattle.rules.specs.declared.Node.{Node}
use Rattle.rules.specs.declared.Pair.{Pair}
use Rattle.rules.specs.declared.Point.{Point}
use Rattle.rules.specs.Sheet.{point, segments_of}
use Rattle.rules.specs.Plain.{share, some_of, segments_share, plain_meet}
use Rattle.rules.specs.Questions.{left_of, right_of, size, start_of, end_of}
use Rattle.visits.proofs.Tests.{no-exactly}
use Rattle.visits.proofs.Counts.{some_of-make, some_of-read}
use Rattle.visits.proofs.Runs.{some_in, some-halves, some-leaf}
use Rattle.visits.proofs.Visits.{with_a, with_b, pair_shares}
use Rattle.meet_truth.specs.Meeting.{LinesMeet}
use Rattle.meet_truth.proofs.Parted.{meeting-swaps}
use Rattle.meet_truth.proofs.Share.{share-meeting}

-- the order of two searches does not matter
exchange : (p : ℕ → ℕ → Bool) (i k j l : ℕ)
    → some_of (λ x. some_of (p x) j l) i k ≡ some_of (λ y. some_of (λ x. p x y) i k) j l
exchange p i k j l =
    T-iff _ _ (λ t. T_true (found p i k j l (yes-T _ t))) (λ t. T_true (found (λ y x. p x y) j l i k (yes-T _ t)))
  where
    found : (p : ℕ → ℕ → Bool) (i k j l : ℕ) → some_of (λ x. some_of (p x) j l) i k ≡ true
        → some_of (λ y. some_of (λ x. p x y) i k) j l ≡ true
    found p i k j l e =
        let x = some_of-read _ i k e in
        let y = some_of-read _ j l x.3 in
        some_of-make _ j l y.0 y.1 y.2 (some_of-make _ i k x.0 x.1 x.2 y.3)

-- ---------------- a pair of nodes

module _ (ps qs : List ℤ) where
  -- some segment of the one and some of the other share a point
  abbrev pub some_shared : Pair → Bool
  some_shared n = some_in (λ i. some_in (segments_share ps qs i) n.b) n.a

  module _ (n : Pair) where
    -- the halves of A's node
    pub shared-halves-A : (s : ℕ) → n.a.first < s → s < n.a.last
        → some_shared n ≡ some_shared (with_a n (left_of n.a s)) || some_shared (with_a n (right_of n.a s))
    shared-halves-A s low high = some-halves (λ i. some_in (segments_share ps qs i) n.b) n.a s low high

    -- the halves of B's node
    pub shared-halves-B : (s : ℕ) → n.b.first < s → s < n.b.last
        → some_shared n ≡ some_shared (with_b n (left_of n.b s)) || some_shared (with_b n (right_of n.b s))
    shared-halves-B s low high =
        b-first n.b ∙ some-halves (λ j. some_in (λ i. segments_share ps qs i j) n.a) n.b s low high
        ∙ (λ d. sym (b-first (left_of n.b s)) d || sym (b-first (right_of n.b s)) d)
      where
        b-first : (b : Node) → some_shared (with_b n b) ≡ some_in (λ j. some_in (λ i. segments_share ps qs i j) n.a) b
        b-first b = exchange (segments_share ps qs) n.a.first (size n.a) b.first (size b)

    -- of two leaves the exact test decides
    pub shared-leaves : n.a.last ≡ suc n.a.first → n.b.last ≡ suc n.b.first
        → some_shared n ≡ pair_shares ps qs n
    shared-leaves e f =
        some-leaf ps (λ u v. some_in (λ j. share u v (point qs j) (point qs (suc j))) n.b) n.a e
        ∙ some-leaf qs (share (start_of ps n.a) (end_of ps n.a)) n.b f

-- ---------------- two lines

-- the plain answer is yes exactly when some segment of A and some of B have a point in common
pub meet-some : (ps qs : List ℤ) → (plain_meet ps qs ≡ true) ↔ LinesMeet ps qs
unfolding plain_meet
meet-some ps qs = (
  λ e. let x = some_of-read _ 0 (segments_of ps) e in
      let y = some_of-read _ 0 (segments_of qs) x.3 in
      record {
        i = x.0;
        j = y.0;
        of-A = omega (arith, x.2);
        of-B = omega (arith, y.2);
        meeting = (share-meeting _ _ _ _).0 (T_true y.3);
      },
  λ m. some_of-make _ 0 (segments_of ps) m.i (omega arith) (omega (arith, m.of-A))
      (some_of-make _ 0 (segments_of qs) m.j (omega arith) (omega (arith, m.of-B))
      (yes-T _ ((share-meeting _ _ _ _).1 m.meeting))),
)

-- and no exactly when no two have
pub meet-none : (ps qs : List ℤ) → (plain_meet ps qs ≡ false) ↔ (LinesMeet ps qs → ⊥)
meet-none ps qs = no-exactly (plain_meet ps qs) (meet-some ps qs)

-- the exact test does not depend on which segment comes first
share-swaps : (a b c d : Point) → share a b c d ≡ share c d a b
share-swaps a b c d = T-iff (share a b c d) (share c d a b) (swapped a b c d) (swapped c d a b)
  where
    swapped : (a b c d : Point) → T (share a b c d) → T (share c d a b)
    swapped a b c d t = (share-meeting c d a b).1 (meeting-swaps ((share-meeting a b c d).0 t))

-- nor does the plain answer on which line is A
pub plain_meet-swaps : (ps qs : List ℤ) → plain_meet ps qs ≡ plain_meet qs ps
unfolding plain_meet
plain_meet-swaps ps qs =
    exchange (segments_share ps qs) 0 (segments_of ps) 0 (segments_of qs)
    ∙ (λ d. some_of (λ j. some_of (λ i.
    share-swaps (point ps i) (point ps (suc i)) (point qs j) (point qs (suc j)) d) 0 (segments_of ps)) 0 (segments_of qs))
