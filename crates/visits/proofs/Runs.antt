-- What is joined over the segments of a node: over its halves, over the one segment of a leaf, and where no segment
-- has it. A run's segments are those of its halves, as both share the split point.
use mathlib.Core.Path.{◌≡◌, refl, sym, ◌∙◌, ap}
use mathlib.Core.Bool.{Bool, false, ◌||◌, or_assoc, or-false}
use mathlib.Core.List.{List}
use Prim.Native.Nat.{ℕ, suc, ◌+◌, ◌-◌, ◌≤◌, ◌<◌}
use native.Mathlib.Nat.{sub-zero}
use native.Mathlib.Omega.{arith}
use lib.IntN.{ℤ}
use Rattle.rules.specs.declared.Node.{Node}
use Rattle.rules.specs.declared.Point.{Point}
use Rattle.rules.specs.Sheet.{point, segments_of}
use Rattle.rules.specs.Plain.{joined, ◌⊕◌}
use Rattle.rules.specs.Questions.{root, left_of, right_of, size, start_of, end_of}
use Rattle.visits.proofs.Counts.{⊕-assoc, ⊕-false, joined-append, joined-one, some_of-none}

-- p of the segments of a node, joined
abbrev pub joined_in : (Bool → Bool → Bool) → Bool → (ℕ → Bool) → Node → Bool
joined_in join none p n = joined join none p n.first (size n)

-- some segment of a node has p, an odd number of them has it
abbrev pub some_in : (ℕ → Bool) → Node → Bool
some_in = joined_in ◌||◌ false

abbrev pub odd_in : (ℕ → Bool) → Node → Bool
odd_in = joined_in ◌⊕◌ false

-- ---------------- any associative operation

-- what is joined over a run is joined over its halves
joined-halves : (join : Bool → Bool → Bool) (none : Bool) → ((b : Bool) → join none b ≡ b)
    → ((a b c : Bool) → join (join a b) c ≡ join a (join b c)) → (p : ℕ → Bool) (n : Node) (s : ℕ) → n.first < s
    → s < n.last
    → joined_in join none p n ≡ join (joined_in join none p (left_of n s)) (joined_in join none p (right_of n s))
joined-halves join none unit assoc p n s low high =
    let parted : n.last - n.first ≡ (s - n.first) + (n.last - s) = omega arith in
    let met : n.first + (s - n.first) ≡ s = omega arith in
    ap (joined join none p n.first) parted
    ∙ joined-append join none unit assoc p n.first (s - n.first) (n.last - s)
    ∙ ap (λ (i : ℕ). join (joined join none p n.first (s - n.first)) (joined join none p i (n.last - s))) met

-- over the whole line, at its root
pub joined-root : (join : Bool → Bool → Bool) (none : Bool) (p : ℕ → Bool) (ps : List ℤ)
    → joined_in join none p (root ps) ≡ joined join none p 0 (segments_of ps)
joined-root join none p ps = ap (joined join none p 0) (sub-zero (segments_of ps))

-- a leaf has one segment, from its start to its end
joined-leaf : (join : Bool → Bool → Bool) (none : Bool) → ((b : Bool) → join b none ≡ b)
    → (ps : List ℤ) (q : Point → Point → Bool) (n : Node) → n.last ≡ suc n.first
    → joined_in join none (λ i. q (point ps i) (point ps (suc i))) n ≡ q (start_of ps n) (end_of ps n)
joined-leaf join none unit ps q n e =
    let one : n.last - n.first ≡ 1 = omega arith in
    ap (joined join none _ n.first) one ∙ joined-one join none unit _ n.first
    ∙ ap (λ (j : ℕ). q (start_of ps n) (point ps j)) (sym e)

-- ---------------- some, and an odd number

pub some-halves : (p : ℕ → Bool) (n : Node) (s : ℕ) → n.first < s → s < n.last
    → some_in p n ≡ some_in p (left_of n s) || some_in p (right_of n s)
some-halves = joined-halves ◌||◌ false (λ b. refl) or_assoc

pub odd-halves : (p : ℕ → Bool) (n : Node) (s : ℕ) → n.first < s → s < n.last
    → odd_in p n ≡ odd_in p (left_of n s) ⊕ odd_in p (right_of n s)
odd-halves = joined-halves ◌⊕◌ false (λ b. refl) ⊕-assoc

pub some-leaf : (ps : List ℤ) (q : Point → Point → Bool) (n : Node) → n.last ≡ suc n.first
    → some_in (λ i. q (point ps i) (point ps (suc i))) n ≡ q (start_of ps n) (end_of ps n)
some-leaf = joined-leaf ◌||◌ false or-false

pub odd-leaf : (ps : List ℤ) (q : Point → Point → Bool) (n : Node) → n.last ≡ suc n.first
    → odd_in (λ i. q (point ps i) (point ps (suc i))) n ≡ q (start_of ps n) (end_of ps n)
odd-leaf = joined-leaf ◌⊕◌ false ⊕-false

-- where no segment has p, not some of the run has
pub some-none : (p : ℕ → Bool) (n : Node) → ((i : ℕ) → n.first ≤ i → i < n.last → p i ≡ false) → some_in p n ≡ false
some-none p n h = some_of-none p n.first (size n) (λ i l m. h i l (omega arith))
