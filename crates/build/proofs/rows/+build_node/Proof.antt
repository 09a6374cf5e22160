-- `build_node`: its own row at the front, the rows of the left half in a part of just their length, and those of the
-- right half in what is left. The number of segments falls.
use mathlib.Core.Path.{◌≡◌, refl, sym, ◌∙◌}
use mathlib.Core.List.{◌++◌}
use Prim.Native.Nat.{ℕ, pred, ◌+◌, ◌*◌, ◌-◌, ◌≤◌, ◌<◌}
use native.Mathlib.Omega.{arith}
use lib.ListN.{length, take, drop}
use Rattle.rules.specs.Tree.{width, numbers, rows_of, row_count}
use Rattle.table_truth.proofs.Rows.{split_between, count-rows}
use Rattle.build.specs.Rows.{node_row}
use Rattle.build.proofs.Node.{leaf-level, inner-level}
use Rattle.build.proofs.Parts.{returned, three-parts, row_room, left-count, all-count, left-room}
use borrow.Author.Rules.{rules}
use borrow.Fn.Kinds.{In}
use borrow.Fn.PlainCycle.{Measures, is, falls, and}
use Rattle.build.proofs.rows.build_node.Reads as node
use Rattle.build.proofs.rows.build_node.Kinds as kinds
use Rattle.build.proofs.rows.+build_node.Lts-build_node as lts
use Rattle.build.proofs.rows.put_row.Reads as row
use Rattle.build.proofs.rows.+build_node.{statement}
use Rattle.build.proofs.rows.+build_node.Tie.{close}

abbrev μ : Measures 3 kinds.ps ℕ
μ κs a = a.1.1.0 - a.1.0

abbrev here : ℕ → In 3 kinds.ps
here t = and 3 kinds.ps (is 3 kinds.ps μ t) node.Pre

abbrev below : ℕ → In 3 kinds.ps
below t = and 3 kinds.ps (falls 3 kinds.ps ◌<◌ μ t) node.Pre

-- what is asked and learnt of the calls
abbrev calls : ℕ → lts.Claims
calls t = (row.Asked, row.Learnt, below t, node.Post)

module _ (t : ℕ) where
  -- the places of the code: at its start, past the node's own row, past the left half's, past both
  abbrev Begun : Type 0
  Begun = lts.Start (calls t) (here t) node.Post

  abbrev Split : Type 0
  Split = lts.After-table-2-1 (calls t) (here t) node.Post

  abbrev LeftDone : Type 0
  LeftDone = lts.After-table-3-1 (calls t) (here t) node.Post

  abbrev BothDone : Type 0
  BothDone = lts.After-table-4-1 (calls t) (here t) node.Post

  abbrev inner : Split → lts.Else-last-first (calls t) (here t) node.Post
  inner c = c.before.before.before.before

  abbrev begun : Split → Begun
  begun c = (inner c).before

  abbrev split : LeftDone → Split
  split c = c.before.before.before

  abbrev left_done : BothDone → LeftDone
  left_done c = c.before.before.before

  -- a node with an inner point splits there
  abbrev mid : Split → ℕ
  mid c = c.before.put_row-split.result

  between : (c : Split) → ((begun c).args.first < mid c) × (mid c < (begun c).args.last)
  between c =
      let a = (begun c).args in
      let b = split_between a.points.now.now a.first a.last (omega arith) in
      let e = c.before.put_row-split.ensures.0 in
      (omega arith, omega arith)

  -- a row is put where there is room for it, of a leaf and of any other node
  put_row-requires : lts.Need-put_row-requires (calls t) (here t) node.Post
  put_row-requires c κs = let p = c.before.before.before.requires.1 in (p.0, p.1, p.2, p.3, omega arith)

  put_row-split-requires : lts.Need-put_row-split-requires (calls t) (here t) node.Post
  put_row-split-requires c κs = let p = c.before.before.before.requires.1 in (p.0, p.1, p.2, p.3, omega arith)

  returns : lts.Need-returns-then-last-first (calls t) (here t) node.Post
  returns c f h =
      let s = c.before.before.before.before.before in
      let a = s.args in
      let p = s.requires.1 in
      let leaf : a.last ≤ a.first + 1 = omega arith in
      let n : width ≡ width * row_count (a.last - a.first) = omega arith in
      let rows = leaf-level a.points.now.now a.first a.last f leaf (omega arith) in
      c.before.put_row.ensures.1 ∙ (λ d. rows d ++ drop (n d) a.table.now)

  sub-right : lts.Need-overflow_sub-right (calls t) (here t) node.Post
  sub-right c = let b = between c in omega arith

  mul_right : lts.Need-overflow_mul-right (calls t) (here t) node.Post
  mul_right c = let b = between c in let p = (begun c).requires.1 in omega arith

  mul-right-2 : lts.Need-overflow_mul-right-2 (calls t) (here t) node.Post
  mul-right-2 c = let b = between c in let p = (begun c).requires.1 in omega arith

  part-count : lts.Need-slice_bounds-build_node-count (calls t) (here t) node.Post
  part-count c = row_room _ _ _ (between c).0 (between c).1

  part-start : lts.Need-slice_bounds-build_node-start (calls t) (here t) node.Post
  part-start c = let b = between c in search rules

  part_end : lts.Need-slice_bounds-build_node-end (calls t) (here t) node.Post
  part_end c = let b = between c in search rules

  build_node-requires : lts.Need-build_node-requires (calls t) (here t) node.Post
  build_node-requires c κs =
      let k = c.before in
      let b = between k in
      let s = begun k in
      let p = s.requires.1 in
      (omega (arith, s.requires.0), (b.0, omega arith, omega arith, p.3, search rules))

  table-right : lts.Need-offset_bounds-table-right (calls t) (here t) node.Post
  table-right c = let b = between (split c) in let p = (begun (split c)).requires.1 in omega arith

  part-count-2 : lts.Need-slice_bounds-build_node-count-2 (calls t) (here t) node.Post
  part-count-2 c = let b = between (split c) in search rules

  part-start-2 : lts.Need-slice_bounds-build_node-start-2 (calls t) (here t) node.Post
  part-start-2 c = let b = between (split c) in search rules

  build_node-requires-2 : lts.Need-build_node-requires-2 (calls t) (here t) node.Post
  build_node-requires-2 c κs =
      let k = split c.before in
      let b = between k in
      let s = begun k in
      let p = s.requires.1 in
      (omega (arith, s.requires.0), (omega arith, p.1, p.2, p.3, search rules))

  returns-2 : lts.Need-returns (calls t) (here t) node.Post
  returns-2 c f h =
      let l = left_done c in
      let e = split l in
      let a = (begun e).args in
      let p = (begun e).requires.1 in
      let ps = a.points.now.now in
      let s = mid e in
      let b = between e in
      let k = width * (2 * (s - a.first)) in
      let m = width * row_count (a.last - s) in
      let L = rows_of (pred f) ps a.first s in
      let R = rows_of (pred f) ps s a.last in
      let t1 = e.before.put_row-split.new.table in
      let y1 = l.before.build_node.new.table in
      let t2 = returned width (k - width) t1 y1 in
      let y2 = c.before.build_node-2.new.table in
      let row = numbers (node_row ps a.first a.last) in
      let many = count-rows (pred f) ps a.first s b.0 (omega arith) in
      let left : y1 ≡ L ++ drop (length L) (take (k - width) (drop width t1)) =
      rw (← many) at (l.before.build_node.ensures (pred f) (omega arith)) in
      let right : y2 ≡ R ++ drop m (take (length t2 - k) (drop k t2)) =
      c.before.build_node-2.ensures (pred f) (omega arith) in
      let room = row_room a.first s a.last b.0 b.1 in
      let long = many ∙ sym (left-count a.first s a.last b.0 b.1) in
      let fits = left-room a.first s a.last b.0 b.1 (length a.table.now) p.4 in
      let own = e.before.put_row-split.ensures in
      let rows = inner-level ps a.first a.last f s (inner e).if-last-first.false (omega arith) own.0 in
      let n = all-count a.first s a.last b.0 b.1 in
      three-parts a.table.now row L R t1 y1 t2 y2 k m refl room long fits own.1 left refl right
      ∙ (λ d. rows d ++ drop (n d) a.table.now)

pub +build_node_spec : {M : Type 1} → statement M
+build_node_spec = close μ λ t. lts.spec (calls t) (here t) node.Post
    (λ c. let p = c.requires.1 in omega arith) (put_row-requires t) (λ c. search rules) (returns t)
    (put_row-split-requires t)
    (sub-right t) (mul_right t) (mul-right-2 t) (part-count t) (part-start t) (part_end t) (build_node-requires t)
    (table-right t) (part-count-2 t) (part-start-2 t) (λ c. search rules) (build_node-requires-2 t)
    (λ c. search rules) (returns-2 t)
