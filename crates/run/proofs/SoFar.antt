-- A run of points of which both ends are read, and then the inner points 1 to i: what is measured so far. The last
-- point is taken before the inner ones, and the least and the greatest of some numbers do not depend on their order.
use mathlib.Core.Path.{◌≡◌, refl, sym, ap, ◌∙◌}
use mathlib.Core.Bool.{Bool, true, false, cond}
use mathlib.Core.List.{List}
use Prim.Native.Nat.{ℕ, zero, suc, ◌+◌, ◌-◌, ◌≤◌}
use native.Mathlib.Nat.{zero-add, sub-zero}
use native.Mathlib.Omega.{arith}
use borrow.Author.Tests.{lt-ltb}
use lib.Dec.{ltb}
use lib.IntN.{ℤ, nat_abs}
use lib.Signed.{◌≤ℤ◌, ≤ℤ_refl}
use Rattle.integers.specs.Laws.{test-ind}
use Rattle.integers.specs.Order.{min_z, max_z, min-l, min-r, min-greatest, max-l, max-r, max_least, ≤ℤ-trans, ≤ℤ-antisym}
use Rattle.rules.specs.Sheet.{point, segments_of}
use Rattle.rules.specs.Tree.{node_c, node_t, least, greatest, height, off_middle, better, best, split_of, measured}
use Rattle.table_truth.proofs.Rows.{best-between}
use Rattle.run.specs.declared.Span.{Span}
use Rattle.run.specs.declared.Top.{Top}
use Rattle.run.specs.declared.Measured.{Measured}
use Rattle.run.specs.Run.{ends_of, span_with, top_with, measured_with, measure_of}
use Rattle.run.proofs.Ends.{c-end, c-least, c-greatest, t-least, t-greatest}

-- ---------------- the least and the greatest, the last number taken early

-- proved once, of a choice of two numbers that comes after whatever comes before both
module _ (R : ℤ → ℤ → Type 0)
    (same : (z : ℤ) → R z z)
    (antisym : (a b : ℤ) → R a b → R b a → a ≡ b)
    (pick : ℤ → ℤ → ℤ)
    (left : (a b z : ℤ) → R z (pick a b) → R z a)
    (right : (a b z : ℤ) → R z (pick a b) → R z b)
    (both : (a b z : ℤ) → R z a → R z b → R z (pick a b)) where
  one_way : (a b c : ℤ) → R (pick (pick a b) c) (pick (pick a c) b)
  one_way a b c =
      let z = pick (pick a b) c in
      let ab = left (pick a b) c z (same z) in
      both (pick a c) b z (both a c z (left a b z ab) (right (pick a b) c z (same z))) (right a b z ab)

  swap : (a b c : ℤ) → pick (pick a b) c ≡ pick (pick a c) b
  swap a b c = antisym (pick (pick a b) c) (pick (pick a c) b) (one_way a b c) (one_way a c b)

min-swap : (a b c : ℤ) → min_z (min_z a b) c ≡ min_z (min_z a c) b
min-swap =
    swap ◌≤ℤ◌ ≤ℤ_refl (λ _ _ h k. ≤ℤ-antisym h k) min_z (λ a b _ h. ≤ℤ-trans h (min-l a b))
    (λ a b _ h. ≤ℤ-trans h (min-r a b)) (λ _ _ _ h k. min-greatest h k)

max-swap : (a b c : ℤ) → max_z (max_z a b) c ≡ max_z (max_z a c) b
max-swap =
    swap (λ a b. b ≤ℤ a) ≤ℤ_refl (λ _ _ h k. ≤ℤ-antisym k h) max_z (λ a b _ h. ≤ℤ-trans (max-l a b) h)
    (λ a b _ h. ≤ℤ-trans (max-r a b) h) (λ _ _ _ h k. max_least h k)

module _ (f : ℕ → ℤ) (last : ℕ) where
  -- of f 0, .. f i and f last
  abbrev span_to : ℕ → Span
  span_to i = record { lo = min_z (least f 0 i) (f last); hi = max_z (greatest f 0 i) (f last) }

  span_more : (i : ℕ) → span_to (suc i) ≡ span_with (span_to i) (f (suc i))
  unfolding least greatest
  span_more i =
      let j = zero-add (suc i) in
      (λ d. record {
        lo = min_z (min_z (least f 0 i) (f (j d))) (f last);
        hi = max_z (max_z (greatest f 0 i) (f (j d))) (f last);
      })
      ∙ (λ d. record {
        lo = min-swap (least f 0 i) (f (suc i)) (f last) d;
        hi = max-swap (greatest f 0 i) (f (suc i)) (f last) d;
      })

  -- of all of them
  span-all : (k : ℕ) → suc k ≡ last → span_to k ≡ record { lo = least f 0 last; hi = greatest f 0 last }
  unfolding least greatest
  span-all k e =
      let j : last ≡ 0 + suc k = omega arith in
      (λ d. record { lo = min_z (least f 0 k) (f (j d)); hi = max_z (greatest f 0 k) (f (j d)) })
      ∙ (λ d. record { lo = least f 0 (e d); hi = greatest f 0 (e d) })

-- ---------------- the split

module _ (q : List ℤ) (last : ℕ) where
  abbrev top_at : ℕ → Top
  top_at s = record { split = s; height = height q 0 last s }

  -- the best of the inner points 1 to i
  abbrev pub top_so_far : ℕ → Top
  top_so_far zero = record { split = 1; height = 0 }
  top_so_far (suc i) = top_at (best q 0 last i)

  pub top_below : (i : ℕ) → (top_so_far i).split ≤ i + 1
  top_below zero = omega arith
  top_below (suc i) = let b = best-between q 0 last i in omega arith

  -- point 1 takes its own place
  first-top : (h : ℕ) → top_with last (record { split = 1; height = 0 }) 1 h ≡ record { split = 1; height = h }
  first-top zero =
      let t : Top = record { split = 1; height = 0 } in
      test-ind (λ b. cond b t t ≡ t) (ltb (off_middle 0 last 1) (off_middle 0 last 1)) (λ _. refl) (λ _. refl)
  first-top (suc h) = simp (lt-ltb 0 (suc h) (omega arith))

  one-top : (b : Bool) (i s : ℕ) → top_at (cond b i s) ≡ cond b (top_at i) (top_at s)
  one-top true i s = refl
  one-top false i s = refl

  top-more : (i : ℕ) → top_so_far (suc i) ≡ top_with last (top_so_far i) (suc i) (height q 0 last (suc i))
  unfolding best better
  top-more zero = sym (first-top (height q 0 last 1))
  top-more (suc i) =
      let s = best q 0 last i in
      let j : 0 + 1 + suc i ≡ suc (suc i) = omega arith in
      (λ d. top_at (cond (better q 0 last s (j d)) (j d) s)) ∙ one-top (better q 0 last s (suc (suc i))) (suc (suc i)) s

  -- the last point has no height
  height-end : height q 0 last last ≡ 0
  unfolding height
  height-end = ap nat_abs (c-end (point q 0) (point q last))

  -- the best of all inner points; where there is none, it is the last point
  top-all : (k : ℕ) → suc k ≡ last → top_so_far k ≡ top_at (split_of q 0 last)
  unfolding split_of best
  top-all zero e =
      let h = sym (ap (height q 0 last) e ∙ height-end) in
      let k : 0 ≡ last - 0 - 2 = omega arith in
      (λ d. record { split = 1; height = h d }) ∙ (λ d. top_at (best q 0 last (k d)))
  top-all (suc k) e = let j : k ≡ last - 0 - 2 = omega arith in λ d. top_at (best q 0 last (j d))

-- ---------------- what is measured

module _ (q : List ℤ) (last : ℕ) where
  -- the strip, the box and the split of the points 0 to i and of the last
  abbrev pub so_far : ℕ → Measured
  so_far i = record {
    c = span_to (λ j. node_c q 0 last (point q j)) last i;
    t = span_to (λ j. node_t q 0 last (point q j)) last i;
    x = span_to (λ j. (point q j).x) last i;
    y = span_to (λ j. (point q j).y) last i;
    top = top_so_far q last i;
  }

  -- both ends alone
  pub so-far-ends : so_far 0 ≡ ends_of (point q 0) (point q last)
  unfolding least greatest
  so-far-ends =
      let s = point q 0 in
      let e = point q last in
      λ d. record {
        c = record { lo = c-least s e d; hi = c-greatest s e d };
        t = record { lo = t-least s e d; hi = t-greatest s e d };
        x = (ends_of s e).x;
        y = (ends_of s e).y;
        top = (ends_of s e).top;
      }

  -- one point more
  pub so_far_more : (i : ℕ)
      → so_far (suc i)
      ≡ measured_with (so_far i) (node_c q 0 last (point q (suc i))) (node_t q 0 last (point q (suc i)))
      (point q (suc i)) last (suc i)
  unfolding height
  so_far_more i = λ d. record {
    c = span_more (λ j. node_c q 0 last (point q j)) last i d;
    t = span_more (λ j. node_t q 0 last (point q j)) last i d;
    x = span_more (λ j. (point q j).x) last i d;
    y = span_more (λ j. (point q j).y) last i d;
    top = top-more q last i d;
  }

-- what is measured once all inner points are read is what is measured of the run
pub so-far-all : (q : List ℤ) (k : ℕ) → suc k ≡ segments_of q → so_far q (segments_of q) k ≡ measure_of q
unfolding measured
so-far-all q k e =
    let n = segments_of q in
    let m = sym (sub-zero n) in
    let c : ℕ → ℤ = λ j. node_c q 0 n (point q j) in
    let t : ℕ → ℤ = λ j. node_t q 0 n (point q j) in
    let x : ℕ → ℤ = λ j. (point q j).x in
    let y : ℕ → ℤ = λ j. (point q j).y in
    (λ d. record {
      c = span-all c n k e d;
      t = span-all t n k e d;
      x = span-all x n k e d;
      y = span-all y n k e d;
      top = top-all q n k e d;
    })
    ∙ (λ d. record {
      c = record { lo = least c 0 (m d); hi = greatest c 0 (m d) };
      t = record { lo = least t 0 (m d); hi = greatest t 0 (m d) };
      x = record { lo = least x 0 (m d); hi = greatest x 0 (m d) };
      y = record { lo = least y 0 (m d); hi = greatest y 0 (m d) };
      top = top_at q n (split_of q 0 n);
    })
