-- The visit that NEAR and IN make of a node: dismiss it, test a leaf, or open it. It is right about the node where the
-- dismissal is, as a leaf is its one segment and any other node is its halves. And the parts of MEET's visit.
use mathlib.Core.Path.{◌≡◌}
use mathlib.Core.Bool.{Bool, false, cond}
use mathlib.Core.List.{List}
use Prim.Native.Nat.{ℕ, suc, ◌<◌}
use lib.Dec.{T, leb→le, nleb→lt}
use lib.IntN.{ℤ}
use Rattle.integers.specs.Laws.{cond_ind}
use Rattle.rules.specs.declared.Line.{Line}
use Rattle.rules.specs.declared.Node.{Node}
use Rattle.rules.specs.declared.Pair.{Pair}
use Rattle.rules.specs.declared.Point.{Point}
use Rattle.rules.specs.Sheet.{point}
use Rattle.rules.specs.Tree.{row_at}
use Rattle.rules.specs.Plain.{share}
use Rattle.rules.specs.Walk.{Visit, finish, pass, halve}
use Rattle.rules.specs.Questions.{leaf, left_of, right_of, split_in, start_of, end_of, heading_of, read_row, apart}
use Rattle.visits.specs.Tells.{Right}
use Rattle.visits.proofs.Runs.{some_in, some-halves, some-leaf}
use Rattle.visits.proofs.Told.{right-test}
use Rattle.visits.proofs.Sound.{SoundTree, row-good, leaf-next, split_at, low, high, left-tree, right-tree}

-- what is dismissed, or a leaf that fails the exact test, passes with the count changed by h
abbrev pub node_visit : {S : Type 0} → Line → List ℤ → List ℤ → Node → Bool → Bool → (S → S) → Visit S Node
node_visit l ps t n dismissed exact h =
    read_row l ps t n λ r.
    cond dismissed (pass h)
    (cond (leaf n) (cond exact finish (pass h)) (halve (left_of n (split_in r)) (right_of n (split_in r))))

-- a pair with another node in the place of A's, of B's
abbrev pub with_a : Pair → Node → Pair
with_a n m = record { a = m; b = n.b }

abbrev pub with_b : Pair → Node → Pair
with_b n m = record { a = n.a; b = m }

-- whether MEET dismisses a pair, and what its exact test says of two leaves
abbrev pub pair_apart : List ℤ → List ℤ → List ℤ → List ℤ → Pair → Bool
pair_apart ps t qs t' n =
    apart (row_at t n.a.row) (start_of ps n.a) (heading_of ps n.a) (row_at t' n.b.row) (start_of qs n.b)
    (heading_of qs n.b)

abbrev pub pair_shares : List ℤ → List ℤ → Pair → Bool
pair_shares ps qs n = share (start_of ps n.a) (end_of ps n.a) (start_of qs n.b) (end_of qs n.b)

module _ {S : Type 0} (ps t : List ℤ) (test : Point → Point → Bool) (add : Node → S → S) where
  -- some segment of a node passes the exact test
  abbrev pub some_tested : Node → Bool
  some_tested = some_in (λ i. test (point ps i) (point ps (suc i)))

  abbrev pub RightNode : ℕ → Node → Visit S Node → Type 0
  RightNode = Right some_tested add (λ f. SoundTree ps t)

  pub right-node : (l : Line) (f : ℕ) (n : Node) → SoundTree ps t n → (dismissed : Bool) (h : S → S)
      → (T dismissed → (some_tested n ≡ false) × ((s : S) → h s ≡ add n s))
      → (n.last ≡ suc n.first → (s : S) → h s ≡ add n s)
      → ((m : ℕ) → n.first < m → m < n.last → (s : S) → add (right_of n m) (add (left_of n m) s) ≡ add n s)
      → RightNode f n (node_visit l ps t n dismissed (test (start_of ps n) (end_of ps n)) h)
  right-node l f n g dismissed h clear one halves =
      rw (row-good g)
      (cond_ind dismissed _ _ (RightNode f n) clear
      (λ _. cond_ind (leaf n) _ _ (RightNode f n)
      (λ a.
      let e = leaf-next g (leb→le _ _ a) in
      right-test some_tested add (λ f. SoundTree ps t) f n _ (some-leaf ps test n e) (one e))
      (λ a.
      let more = nleb→lt _ _ a in
      let lower = low g more in
      let higher = high g more in
      (left-tree g more, right-tree g more, some-halves _ n _ lower higher, halves (split_at g) lower higher))))
