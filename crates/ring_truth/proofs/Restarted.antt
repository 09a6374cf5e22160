-- A ring asked from any of its points as the first gives the same answer, whatever the visits: its segments are the
-- same, the last ones first, and what some or an odd number of them has does not depend on the order of two parts.
use mathlib.Core.Path.{◌≡◌, refl, sym, ◌∙◌, ap}
use mathlib.Core.Bool.{Bool, false, cond, ◌||◌, or_comm}
use mathlib.Core.List.{List, [], ◌∷◌}
use mathlib.Core.Logic.{◌⊎◌, inl, inr, ⊎_elim}
use Prim.Native.Nat.{ℕ, zero, suc, ◌+◌, ◌*◌, ◌-◌, ◌/◌, ◌≤◌, ◌<◌}
use native.Mathlib.Omega.{arith}
use lib.Dec.{T}
use lib.IntN.{ℤ, pos}
use lib.ListN.{length, take, drop, get_or, length-append, length-take, length-drop, get_or-append}
use lib.Seq.{get_or-take, get_or-drop, get_or-append-add}
use Rattle.rules.specs.declared.Point.{Point}
use Rattle.rules.specs.Sheet.{point, segments_of}
use Rattle.rules.specs.Plain.{joined, ◌⊕◌, on_segment, crosses, plain_on, plain_inside}
use Rattle.rules.specs.declared.Word.TheVariants.{INSIDE, OUTSIDE, ON, UNDECIDED}
use Rattle.rules.specs.Questions.{in_reply}
use Rattle.rules.specs.Build.{sound}
use Rattle.visits.proofs.Points.{one-point}
use Rattle.visits.proofs.Counts.{⊕-comm, joined-moved, some_of-append, odd_of-append}
use Rattle.ring_truth.specs.Truth.{InAsked, plain_side}
use Rattle.ring_truth.specs.Restarted.{Ring, restarted}
use Rattle.ring_truth.proofs.Truth.{asked-ring, in-true}

-- the square (0,0) (4,0) (4,4) (0,4) (0,0), asked from (4,0)
square-restarted :
    restarted 1 (pos 0 ∷ pos 0 ∷ pos 4 ∷ pos 0 ∷ pos 4 ∷ pos 4 ∷ pos 0 ∷ pos 4 ∷ pos 0 ∷ pos 0 ∷ [])
    ≡ pos 4 ∷ pos 0 ∷ pos 4 ∷ pos 4 ∷ pos 0 ∷ pos 4 ∷ pos 0 ∷ pos 0 ∷ pos 4 ∷ pos 0 ∷ []
unfolding restarted
square-restarted = refl

module _ (ps : List ℤ) (r : Ring ps) (k : ℕ) (l : k ≤ segments_of ps) where
  -- the ring from point k on, its segments, and how many of them come before the old start
  abbrev rs : List ℤ
  rs = restarted k ps

  abbrev n : ℕ
  n = segments_of ps

  -- ---------------- its points

  length-ring : length ps ≡ 2 * n + 2
  length-ring = omega (arith, r.pairs, r.some)

  -- the numbers from point k on
  length-late : length (drop (2 * k) ps) ≡ 2 * (n - k) + 2
  length-late = length-drop (2 * k) ps ∙ omega (arith, length-ring)

  segments-restarted : segments_of rs ≡ n
  unfolding restarted
  segments-restarted =
      let same : length rs ≡ length ps = simp (length-append, length-drop, length-take) (omega (arith, length-ring)) in
      ap (λ (m : ℕ). m / 2 - 1) same

  -- number j of the restarted ring is number m of the ring
  number-late : (j m : ℕ) → j < 2 * (n - k) + 2 → 2 * k + j ≡ m → get_or rs j (pos 0) ≡ get_or ps m (pos 0)
  unfolding restarted
  number-late j m h e =
      get_or-append (drop (2 * k) ps) (drop 2 (take (2 * k + 2) ps)) (pos 0) j (omega (arith, length-late))
      ∙ get_or-drop (2 * k) ps j (pos 0)
      ∙ ap (λ (i : ℕ). get_or ps i (pos 0)) e

  number-early : (i j m : ℕ) → i < 2 * k → j ≡ 2 * (n - k) + 2 + i → 2 + i ≡ m → get_or rs j (pos 0) ≡ get_or ps m (pos 0)
  unfolding restarted
  number-early i j m h d e =
      let at : j ≡ length (drop (2 * k) ps) + i = omega (arith, length-late) in
      ap (λ (i : ℕ). get_or rs i (pos 0)) at
      ∙ get_or-append-add (drop (2 * k) ps) (drop 2 (take (2 * k + 2) ps)) i (pos 0)
      ∙ get_or-drop 2 (take (2 * k + 2) ps) i (pos 0)
      ∙ get_or-take (2 * k + 2) ps (2 + i) (pos 0) (omega arith)
      ∙ ap (λ (i : ℕ). get_or ps i (pos 0)) e

  -- point k and those after it come first, then point 0 or the last, which are one, and those up to point k
  point-late : (j m : ℕ) → j ≤ n - k → k + j ≡ m → point rs j ≡ point ps m
  point-late j m h e =
      one-point (number-late (2 * j) (2 * m) (omega arith) (omega arith))
      (number-late (2 * j + 1) (2 * m + 1) (omega arith) (omega arith))

  point-early : (i j : ℕ) → i ≤ k → n - k + i ≡ j → point rs j ≡ point ps i
  point-early zero j h e = point-late j n (omega arith) (omega arith) ∙ sym r.closed
  point-early (suc i) j h e =
      one-point (number-early (2 * i) (2 * j) (2 * suc i) (omega arith) (omega arith) (omega arith))
      (number-early (2 * i + 1) (2 * j + 1) (2 * suc i + 1) (omega arith) (omega arith) (omega arith))

  -- ---------------- what is joined over its segments, the last part first

  module _ (join : Bool → Bool → Bool) (none : Bool) (comm : (a b : Bool) → join a b ≡ join b a)
      (append : (p : ℕ → Bool) (i j k : ℕ)
      → joined join none p i (j + k) ≡ join (joined join none p i j) (joined join none p (i + j) k))
      (test : Point → Point → Bool) where
    abbrev of : List ℤ → ℕ → Bool
    of qs i = test (point qs i) (point qs (suc i))

    joined-restarted : joined join none (of rs) 0 (segments_of rs) ≡ joined join none (of ps) 0 n
    joined-restarted =
        let parted : segments_of rs ≡ n - k + k = omega (arith, segments-restarted) in
        let whole : k + (n - k) ≡ n = omega arith in
        ap (joined join none (of rs) 0) parted
        ∙ append (of rs) 0 (n - k) k
        ∙ (λ d. join (lates d) (earlies d))
        ∙ comm (joined join none (of ps) (0 + k) (n - k)) (joined join none (of ps) 0 k)
        ∙ sym (append (of ps) 0 k (n - k))
        ∙ ap (joined join none (of ps) 0) whole
      where
        lates : joined join none (of rs) 0 (n - k) ≡ joined join none (of ps) (0 + k) (n - k)
        lates = joined-moved join none (of rs) (of ps) 0 (0 + k) (n - k) (λ m h d.
            test (point-late (0 + m) (0 + k + m) (omega arith) (omega arith) d)
            (point-late (suc (0 + m)) (suc (0 + k + m)) (omega arith) (omega arith) d))

        earlies : joined join none (of rs) (0 + (n - k)) k ≡ joined join none (of ps) 0 k
        earlies = joined-moved join none (of rs) (of ps) (0 + (n - k)) 0 k (λ m h d.
            test (point-early (0 + m) (0 + (n - k) + m) (omega arith) (omega arith) d)
            (point-early (suc (0 + m)) (suc (0 + (n - k) + m)) (omega arith) (omega arith) d))

  -- z is on a segment, and an odd number of segments crosses, from whichever point the ring is asked
  pub restarted-on : (z : Point) → plain_on rs z ≡ plain_on ps z
  unfolding plain_on
  restarted-on z = joined-restarted ◌||◌ false or_comm some_of-append (on_segment z)

  pub restarted-inside : (z : Point) → plain_inside rs z ≡ plain_inside ps z
  unfolding plain_inside
  restarted-inside z = joined-restarted ◌⊕◌ false ⊕-comm odd_of-append (crosses z)

  pub restarted-side : (z : Point) → plain_side rs z ≡ plain_side ps z
  restarted-side z = λ i. cond (restarted-on z i) ON (cond (restarted-inside z i) INSIDE OUTSIDE)

-- two replies about one ring, asked from two of its points as the first, are the same word unless one of them is
-- Undecided
pub same-answer-from-any-point : (ps t t' : List ℤ) (k : ℕ) (z : Point) (a a' : ℕ) → k ≤ segments_of ps
    → T (sound ps t) → InAsked ps t z → T (sound (restarted k ps) t') → InAsked (restarted k ps) t' z
    → ((in_reply ps t z a).word ≡ UNDECIDED)
    ⊎ ((in_reply (restarted k ps) t' z a').word ≡ UNDECIDED)
    ⊎ ((in_reply ps t z a).word ≡ (in_reply (restarted k ps) t' z a').word)
same-answer-from-any-point ps t t' k z a a' l h e h' e' =
    let same = restarted-side ps (asked-ring ps t z e) k l z in
    ⊎_elim inl (λ p. inr (⊎_elim inl (λ q. inr (p ∙ sym same ∙ sym q)) (in-true (restarted k ps) t' z a' h' e')))
    (in-true ps t z a h e)
