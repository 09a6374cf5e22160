-- Demand 2 for IN: each visit is right about its node, so the walk is right about the ring.
use mathlib.Core.Path.{◌≡◌, refl, sym, ◌∙◌, ap}
use mathlib.Core.Bool.{Bool, true, false, not, cond, ◌||◌}
use mathlib.Core.List.{List, [], ◌∷◌}
use mathlib.Core.Logic.{◌↔◌, inl, inr, ◌≢◌}
use Prim.Native.Nat.{ℕ, ◌%◌, ◌≤◌}
use native.Mathlib.Omega.{arith}
use lib.Dec.{T, ltb}
use lib.IntN.{ℤ}
use lib.ListN.{length}
use mir.Facts.{or_no, T_not-not, eqb_no}
use Rattle.integers.specs.Laws.{test-ind}
use Rattle.integers.specs.Order.{T_true, T_false, yes-T}
use Rattle.rules.specs.declared.Line.TheVariants.{LineA}
use Rattle.rules.specs.declared.Node.{Node}
use Rattle.rules.specs.declared.Point.{Point}
use Rattle.rules.specs.declared.Tally.{Tally}
use Rattle.rules.specs.Plane.{same_point}
use Rattle.rules.specs.Sheet.{point, points_of, segments_of}
use Rattle.rules.specs.Tree.{row_at}
use Rattle.rules.specs.Plain.{◌⊕◌, on_segment, crosses, segment_holds, segment_crosses, plain_on, plain_inside}
use Rattle.rules.specs.declared.Word.TheVariants.{INSIDE, OUTSIDE, ON}
use Rattle.rules.specs.Rows.{asked_check, ring_check}
use Rattle.rules.specs.Walk.{Walked, ended, over, spent, refused, fresh}
use Rattle.rules.specs.Questions.{root, start_of, end_of, heading_of, clear_of, count}
use Rattle.rules.specs.Questions.{in_visit, in_walk, side_of_ring, in_checks, in_reply}
use Rattle.rules.specs.Build.{sound}
use Rattle.visits.specs.Tells.{Tells}
use Rattle.visits.specs.Truthful.{SaysOnly}
use Rattle.visits.proofs.Points.{same_point_lem}
use Rattle.visits.proofs.Counts.{⊕-assoc, some_of-make, some_of-read}
use Rattle.visits.proofs.Checks.{none-clear, some-segment}
use Rattle.visits.proofs.Runs.{odd_in, odd-halves, odd-leaf, some-none, joined-root}
use Rattle.visits.proofs.Told.{walk-tells}
use Rattle.visits.proofs.Sound.{SoundTree, root-tree}
use Rattle.visits.proofs.Visits.{some_tested, RightNode, right-node}
use Rattle.ring_truth.specs.Truth.{OnSome, InAsked, plain_side}
use Rattle.ring_truth.specs.Restarted.{Ring}
use Rattle.ring_truth.proofs.OnEdge.{on-lies}
use Rattle.ring_truth.proofs.Clear.{clear-alone}

-- ---------------- the walk

module _ (ps t : List ℤ) (z : Point) where
  -- the truth of a node: whether one of its segments holds z, and what its crossings add to the count
  abbrev add : Node → Bool → Bool
  add n k = k ⊕ odd_in (segment_crosses ps z) n

  abbrev hit : Node → Bool
  hit = some_tested ps t (on_segment z) add

  -- the visit is right: of a dismissed node the chord counts, a leaf is its one segment, the halves' crossings are
  -- added
  right : (f : ℕ) (n : Node) → SoundTree ps t n → RightNode ps t (on_segment z) add f n (in_visit ps t z n)
  unfolding in_visit
  right f n g =
      let r = row_at t n.row in
      let l = g.some-segment in
      right-node ps t (on_segment z) add LineA f n g (clear_of r (start_of ps n) (heading_of ps n) z)
      (count (crosses z (start_of ps n) (end_of ps n)))
      (λ c.
      let a = clear-alone ps z r n.first n.last (omega arith) g.node.holds c in
      (some-none (segment_holds ps z) n a.off, λ k. ap (λ (b : Bool). k ⊕ b) (sym a.chord)))
      (λ e k. ap (λ (b : Bool). k ⊕ b) (sym (odd-leaf ps (crosses z) n e)))
      (λ m low high k.
      ⊕-assoc k _ _ ∙ ap (λ (b : Bool). k ⊕ b) (sym (odd-halves (segment_crosses ps z) n m low high)))

  -- the walk of IN tells the truth of the ring
  in-tells : T (sound ps t) → 1 ≤ segments_of ps → (y : Tally) → Tells hit add (root ps) false (in_walk ps t z y)
  in-tells h l y =
      walk-tells (in_visit ps t z) (λ f. SoundTree ps t) hit add right (segments_of ps) (root ps) false y
      (root-tree ps t h l)

  -- the truth of the root is the plain rule
  root-on : hit (root ps) ≡ plain_on ps z
  unfolding plain_on
  root-on = joined-root ◌||◌ false (segment_holds ps z) ps

  root-inside : add (root ps) false ≡ plain_inside ps z
  unfolding plain_inside
  root-inside = joined-root ◌⊕◌ false (segment_crosses ps z) ps

  word-true : (a : ℕ) (w : Walked Bool) → Tells hit add (root ps) false w → SaysOnly (plain_side ps z) (side_of_ring a w)
  word-true a (ended y) h = inr (λ i. cond ((sym h ∙ root-on) i) ON (cond (plain_inside ps z) INSIDE OUTSIDE))
  word-true a (over k y) h =
      inr (test-ind (λ b. (side_of_ring a (over b y)).word ≡ cond b INSIDE OUTSIDE) k (λ _. refl) (λ _. refl)
      ∙ (λ i. cond ((sym h.0 ∙ root-on) i) ON (cond ((h.1 ∙ root-inside) i) INSIDE OUTSIDE)))
  word-true a spent h = inl refl
  word-true a (refused r) h = absurd h

-- ---------------- the answers of IN

-- checks 1, 2 and 9 passed: the numbers are a ring
pub asked-ring : (ps t : List ℤ) (z : Point) → InAsked ps t z → Ring ps
asked-ring ps t z e =
    let h = none-clear (in_checks ps t z) e in
    let even : length ps % 2 ≢ 1 = eqb_no (T_false h.0) in
    let same = same_point (point ps 0) (point ps (segments_of ps)) in
    let ring = or_no (ltb (points_of ps) 4) (not same) (T_false h.1.1.1.1.1.0) in
    record {
      pairs = omega arith;
      some = some-segment LineA ps t (asked_check z ∷ ring_check LineA ps ∷ []) e;
      closed = same_point_lem (point ps 0) (point ps (segments_of ps)) (T_not-not same ring.1);
    }

-- the test over all segments says that z lies on one
pub plain-on : (ps : List ℤ) (z : Point) → (plain_on ps z ≡ true) ↔ OnSome ps z
unfolding plain_on
plain-on ps z = (
  λ e. let s = some_of-read (segment_holds ps z) 0 (segments_of ps) e in
      record { segment = s.0; below = omega (arith, s.2); lies = (on-lies z _ _).0 (T_true s.3) },
  λ o. some_of-make (segment_holds ps z) 0 (segments_of ps) o.segment (omega arith) (omega (arith, o.below))
      (yes-T _ ((on-lies z _ _).1 o.lies)),
)

-- demand 2: with a sound table IN is never wrong, and refuses nothing once it walks
pub in-true : (ps t : List ℤ) (z : Point) (a : ℕ) → T (sound ps t) → InAsked ps t z
    → SaysOnly (plain_side ps z) (in_reply ps t z a)
unfolding in_reply
in-true ps t z a h e =
    rw e (word-true ps t z a (in_walk ps t z (fresh a)) (in-tells ps t z h (asked-ring ps t z e).some (fresh a)))
