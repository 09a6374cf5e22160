-- The visits of NEAR, IN and MEET halve: a good row's split stands strictly between first and last, so the halves of a
-- node share its segments, and the halves of a pair its pairs of segments.
use mathlib.Core.Path.{◌≡◌, sym, ◌∙◌, ap}
use mathlib.Core.Bool.{Bool, not, cond, ◌&&◌}
use mathlib.Core.List.{List}
use Prim.Native.Nat.{ℕ, suc, ◌+◌, ◌*◌, ◌≤◌, ◌<◌}
use native.Mathlib.Nat.{add-mul, mul-add, mul-pos, le_of_eq}
use native.Mathlib.Omega.{arith}
use lib.Dec.{T, leb, leb→le, nleb→lt}
use lib.IntN.{ℤ}
use Rattle.integers.specs.Laws.{cond_ind}
use Rattle.rules.specs.declared.Line.{Line}
use Rattle.rules.specs.declared.Line.TheVariants.{LineA, LineB}
use Rattle.rules.specs.declared.Node.{Node}
use Rattle.rules.specs.declared.Pair.{Pair}
use Rattle.rules.specs.declared.Point.{Point}
use Rattle.rules.specs.Tree.{row_at}
use Rattle.rules.specs.Plain.{within, on_segment, crosses}
use Rattle.rules.specs.Rows.{good}
use Rattle.rules.specs.Walk.{Visit, halve}
use Rattle.rules.specs.Questions.{left_of, right_of, leaf, size, split_in, read_row, start_of, end_of, heading_of}
use Rattle.rules.specs.Questions.{far_from, near_visit, meet_visit, clear_of, count, in_visit}
use Rattle.visits.specs.Nodes.{Inner}
use Rattle.visits.proofs.Nodes.{good-inner, larger-opens, other-opens}
use Rattle.visits.proofs.Visits.{node_visit, with_a, with_b, pair_apart, pair_shares}
use Rattle.allowance.proofs.Walks.{Shares, refuses, finishes, passes, halves, Halving}

module _ {S N : Type 0} {Fine : ℕ → N → Type 0} {parts : N → ℕ} {f : ℕ} {n : N} where
  -- a visit that goes by a test shares where both ways do
  shares-cond : {x y : Visit S N} (b : Bool) → (T b → Shares Fine parts f n x) → (T (not b) → Shares Fine parts f n y)
      → Shares Fine parts f n (cond b x y)
  shares-cond b p q = cond_ind b _ _ (Shares Fine parts f n) p q

  -- a bad row is refused
  shares-row : {x : Visit S N} (l : Line) (ps t : List ℤ) (m : Node)
      → (T (good ps (row_at t m.row) m.first m.last) → Shares Fine parts f n x)
      → Shares Fine parts f n (read_row l ps t m (λ r. x))
  shares-row l ps t m h = shares-cond (good ps (row_at t m.row) m.first m.last) h (λ _. refuses)

-- a node of at least one segment, and of at most this many
abbrev Spans : ℕ → Node → Type 0
Spans f n = (n.first < n.last) × (n.last ≤ f + n.first)

-- a split that halves a node is an inner point
abbrev Halves : Node → ℕ → Type 0
Halves n s = Inner n.first s n.last

-- NEAR's and IN's visits halve a node's segments
node-halves : {S : Type 0} (l : Line) (ps t : List ℤ) (dismissed exact : Node → Bool) (h : Node → S → S)
    → Halving Spans size (λ n. node_visit l ps t n (dismissed n) (exact n) (h n))
node-halves l ps t dismissed exact h = record {
  no-level = λ n k. omega arith;
  some-part = λ f n k. omega arith;
  shares = λ f n k.
      shares-row l ps t n λ g.
      shares-cond (dismissed n) (λ _. passes) λ _.
      shares-cond (leaf n) (λ _. shares-cond (exact n) (λ _. finishes) (λ _. passes)) λ e.
      let s = split_in (row_at t n.row) in
      let b : Halves n s = good-inner ps t n g (nleb→lt _ _ e) in
      halves (left_of n s) (right_of n s) (omega arith) (omega arith) (omega arith);
}

pub near-halves : (l : Line) (ps t : List ℤ) (z : Point) (D : ℤ) → Halving Spans size (near_visit l ps t z D)
unfolding near_visit
near-halves l ps t z D =
    node-halves l ps t (λ n. far_from (row_at t n.row) (start_of ps n) (heading_of ps n) z D)
    (λ n. within z (start_of ps n) (end_of ps n) D) (λ n k. k)

pub in_halves : (ps t : List ℤ) (z : Point) → Halving Spans size (in_visit ps t z)
unfolding in_visit
in_halves ps t z =
    node-halves LineA ps t (λ n. clear_of (row_at t n.row) (start_of ps n) (heading_of ps n) z)
    (λ n. on_segment z (start_of ps n) (end_of ps n)) (λ n. count (crosses z (start_of ps n) (end_of ps n)))

-- a pair of nodes of at least one segment each, and of at most this many together
abbrev PairSpans : ℕ → Pair → Type 0
PairSpans f n =
    (n.a.first < n.a.last) × (n.b.first < n.b.last)
    × (n.a.last + n.b.last ≤ f + (n.a.first + n.b.first))

-- the pairs of segments of a pair of nodes
abbrev pairs : Pair → ℕ
pairs n = size n.a * size n.b

-- the halves of a node share its segments; so the halves of a pair, whichever of its nodes is split, share its pairs
sizes : (n : Node) (s : ℕ) → Halves n s → size (left_of n s) + size (right_of n s) ≡ size n
sizes n s b = omega arith

a-halves : {S : Type 0} (f : ℕ) (n : Pair) (s : ℕ) → PairSpans (suc f) n → Halves n.a s
    → Shares {S = S} PairSpans pairs f n (halve (with_a n (left_of n.a s)) (with_a n (right_of n.a s)))
a-halves f n s h b =
    halves (with_a n (left_of n.a s)) (with_a n (right_of n.a s)) (omega arith) (omega arith)
    (le_of_eq (sym (add-mul _ _ _) ∙ ap (λ k. k * size n.b) (sizes n.a s b)))

b-halves : {S : Type 0} (f : ℕ) (n : Pair) (s : ℕ) → PairSpans (suc f) n → Halves n.b s
    → Shares {S = S} PairSpans pairs f n (halve (with_b n (left_of n.b s)) (with_b n (right_of n.b s)))
b-halves f n s h b =
    halves (with_b n (left_of n.b s)) (with_b n (right_of n.b s)) (omega arith) (omega arith)
    (le_of_eq (sym (mul-add _ _ _) ∙ ap (λ k. size n.a * k) (sizes n.b s b)))

-- MEET's visits halve a pair's pairs of segments
pub meet-halves : (ps t qs t' : List ℤ) → Halving PairSpans pairs (meet_visit ps t qs t')
unfolding meet_visit
meet-halves ps t qs t' = record {
  no-level = λ n h. omega arith;
  some-part = λ f n h. mul-pos {m = size n.a} {n = size n.b} (omega arith) (omega arith);
  shares = λ f n h.
      shares-row LineA ps t n.a λ g.
      shares-row LineB qs t' n.b λ g'.
      shares-cond (pair_apart ps t qs t' n) (λ _. passes) λ _.
      shares-cond (leaf n.a && leaf n.b)
      (λ _. shares-cond (pair_shares ps qs n) (λ _. finishes) (λ _. passes)) λ e.
      shares-cond (leb (size n.b) (size n.a))
      (λ k.
      let more = larger-opens n.a n.b e (leb→le (size n.b) (size n.a) k) in
      a-halves f n _ h (good-inner ps t n.a g more))
      (λ k.
      let more = other-opens n.a n.b e (nleb→lt (size n.b) (size n.a) k) in
      b-halves f n _ h (good-inner qs t' n.b g' more));
}
