-- The run of a node's points is handed on as a part that starts in the middle of the line. What is measured of
-- the part alone, its points counted from 0, is what is measured of the run: the split, the strip and the box.
use mathlib.Core.Path.{◌≡◌, refl, sym, ap, subst, ◌∙◌}
use mathlib.Core.Bool.{Bool, cond, ◌&&◌, ◌||◌}
use mathlib.Core.List.{List}
use Prim.Native.Nat.{ℕ, zero, suc, ◌+◌, ◌*◌, ◌-◌, ◌≤◌, ◌<◌}
use native.Mathlib.Nat.{add-zero, zero-add, sub-zero, add-sub_cancel_left}
use native.Mathlib.Omega.{arith}
use lib.Dec.{ltb, eqb}
use lib.IntN.{ℤ, pos, nat_abs}
use lib.ListN.{take, drop, get_or}
use lib.Seq.{get_or-take, get_or-drop}
use Rattle.integers.specs.Laws.{test-ind}
use Rattle.rules.specs.declared.Point.{Point}
use Rattle.rules.specs.declared.Row.{Row}
use Rattle.rules.specs.Plane.{direction, c_at, t_at}
use Rattle.rules.specs.Sheet.{point}
use Rattle.rules.specs.Tree.{node_c, node_t, least, greatest, height, off_middle, better, best, split_of, measured}
use Rattle.table_truth.proofs.Rows.{best-between}
use Rattle.table_truth.proofs.Extents.{least-part, greatest-part}

-- point i of the part that starts at point first is point first + i of the line
pub part-point : (ps : List ℤ) (first n i : ℕ) → 2 * i + 2 ≤ n
    → point (take n (drop (2 * first) ps)) i ≡ point ps (first + i)
part-point ps first n i h = λ t. record {
  x = number (2 * i) (2 * (first + i)) (omega arith) (omega arith) t;
  y = number (2 * i + 1) (2 * (first + i) + 1) (omega arith) (omega arith) t;
}
  where
    number : (j k : ℕ) → j < n → 2 * first + j ≡ k → get_or (take n (drop (2 * first) ps)) j (pos 0) ≡ get_or ps k (pos 0)
    number j k l e = rw (get_or-take, get_or-drop, e)

-- a row of what a part measures, as it stands in the table of the line
abbrev pub standing : ℕ → ℕ → ℤ → Row → Row
standing first last split r = record {
  first = pos first;
  last = pos last;
  split = split;
  cmin = r.cmin;
  cmax = r.cmax;
  tmin = r.tmin;
  tmax = r.tmax;
  xmin = r.xmin;
  xmax = r.xmax;
  ymin = r.ymin;
  ymax = r.ymax;
}

middle-part : (first m i : ℕ) → off_middle first (first + m) (first + i) ≡ off_middle 0 m i
middle-part first m i = omega arith

-- q has the points first, .. first + m of ps
module _ (ps q : List ℤ) (first m : ℕ) (same : (i : ℕ) → i ≤ m → point q i ≡ point ps (first + i)) where
  start-same : point ps first ≡ point q 0
  start-same = sym (same 0 (omega arith) ∙ ap (λ (n : ℕ). point ps n) (add-zero first))

  end_same : point ps (first + m) ≡ point q m
  end_same = sym (same m (omega arith))

  c-part : (p : Point) → node_c ps first (first + m) p ≡ node_c q 0 m p
  c-part p = λ t. c_at (start-same t) (direction (start-same t) (end_same t)) p

  t-part : (p : Point) → node_t ps first (first + m) p ≡ node_t q 0 m p
  t-part p = λ t. t_at (start-same t) (direction (start-same t) (end_same t)) p

  height-part : (i : ℕ) → i ≤ m → height ps first (first + m) (first + i) ≡ height q 0 m i
  unfolding height
  height-part i h = ap nat_abs (c-part (point ps (first + i)) ∙ ap (λ (p : Point). node_c q 0 m p) (sym (same i h)))

  better-part : (i j : ℕ) → i ≤ m → j ≤ m → better ps first (first + m) (first + i) (first + j) ≡ better q 0 m i j
  unfolding better
  better-part i j h k = λ t.
      ltb (height-part i h t) (height-part j k t)
      || (eqb (height-part i h t) (height-part j k t) && ltb (middle-part first m j t) (middle-part first m i t))

  best-part : (k : ℕ) → k ≤ m - 2 → best ps first (first + m) k ≡ first + best q 0 m k
  unfolding best
  best-part zero h = refl
  best-part (suc k) h =
      let i = best q 0 m k in
      let j = 0 + 1 + suc k in
      let b = best-between q 0 m k in
      let e : first + 1 + suc k ≡ first + j = omega arith in
      (λ t. cond (better ps first (first + m) (best-part k (omega arith) t) (e t)) (e t) (best-part k (omega arith) t))
      ∙ ap (λ (b : Bool). cond b (first + j) (first + i)) (better-part i j (omega arith) (omega arith))
      ∙ test-ind (λ b. cond b (first + j) (first + i) ≡ first + cond b j i) (better q 0 m i j) (λ _. refl) (λ _. refl)

  split-counted : split_of ps first (first + m) ≡ first + split_of q 0 m
  unfolding split_of
  split-counted =
      let e : first + m - first - 2 ≡ m - 0 - 2 = omega arith in
      ap (best ps first (first + m)) e ∙ best-part (m - 0 - 2) (omega arith)

  -- f of the run's points is g of the part's, where f and g are equal
  module _ (f g : Point → ℤ) (h : (p : Point) → f p ≡ g p) where
    at-point : (j : ℕ) → j ≤ m → f (point ps (first + j)) ≡ g (point q (0 + j))
    at-point j l = rw (zero-add j) (h (point ps (first + j)) ∙ ap g (sym (same j l)))

    extents-same : (least (λ i. f (point ps i)) first (first + m - first) ≡ least (λ i. g (point q i)) 0 (m - 0))
        × (greatest (λ i. f (point ps i)) first (first + m - first) ≡ greatest (λ i. g (point q i)) 0 (m - 0))
    extents-same = rw (add-sub_cancel_left, sub-zero) (
      least-part (λ i. f (point ps i)) (λ i. g (point q i)) first 0 m at-point,
      greatest-part (λ i. f (point ps i)) (λ i. g (point q i)) first 0 m at-point,
    )

  measured-counted : (s z : ℤ) → measured ps first (first + m) s ≡ standing first (first + m) s (measured q 0 m z)
  unfolding measured
  measured-counted s z =
      let c = extents-same (node_c ps first (first + m)) (node_c q 0 m) c-part in
      let l = extents-same (node_t ps first (first + m)) (node_t q 0 m) t-part in
      let x = extents-same (λ p. p.x) (λ p. p.x) (λ p. refl) in
      let y = extents-same (λ p. p.y) (λ p. p.y) (λ p. refl) in
      λ t. record {
        first = pos first;
        last = pos (first + m);
        split = s;
        cmin = c.0 t;
        cmax = c.1 t;
        tmin = l.0 t;
        tmax = l.1 t;
        xmin = x.0 t;
        xmax = x.1 t;
        ymin = y.0 t;
        ymax = y.1 t;
      }

-- ---------------- the part of n numbers that starts at point first

module _ (ps : List ℤ) (first last n : ℕ) (order : first ≤ last) (enough : 2 * (last - first) + 2 ≤ n) where
  abbrev part : List ℤ
  part = take n (drop (2 * first) ps)

  counted : first + (last - first) ≡ last
  counted = omega arith

  same : (i : ℕ) → i ≤ last - first → point part i ≡ point ps (first + i)
  same i h = part-point ps first n i (omega arith)

  -- the split of a run is the split of its part, counted from first on
  pub split-part : split_of ps first last ≡ first + split_of part 0 (last - first)
  split-part = ap (split_of ps first) (sym counted) ∙ split-counted ps part first (last - first) same

  -- the strip and the box of a run are those of its part
  pub measured-part : (s z : ℤ) → measured ps first last s ≡ standing first last s (measured part 0 (last - first) z)
  measured-part s z =
      subst (λ (l : ℕ). measured ps first l s ≡ standing first l s (measured part 0 (last - first) z)) counted
      (measured-counted ps part first (last - first) same s z)
