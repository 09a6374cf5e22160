-- What a good row tells, where a node's rows stand in the table, and what a sound table tells at each node. The row
-- numbers of both children are kept in one place: `Fits`.
use mathlib.Core.Path.{subst}
use mathlib.Core.Bool.{Bool, true, not, cond, ◌&&◌, and_comm}
use mathlib.Core.List.{List}
use mathlib.Core.Logic.{⊎_elim}
use Prim.Native.Nat.{ℕ, suc, ◌+◌, ◌≤◌, ◌<◌}
use native.Mathlib.Omega.{arith}
use borrow.Author.Tests.{lt-leb}
use lib.Dec.{T, nleb→lt}
use lib.IntN.{ℤ, pos, negsuc, nat_abs}
use lib.Signed.{le_z, lt_z, ◌≤ℤ◌, ◌<ℤ◌, le_z_yes, lt_z_yes}
use mir.Facts.{and_yes, and_no}
use Rattle.integers.specs.Laws.{zarith}
use Rattle.rules.specs.declared.Node.{Node}
use Rattle.rules.specs.declared.Row.{Row}
use Rattle.rules.specs.Sheet.{point, segments_of, on_sheet, in_sheet}
use Rattle.rules.specs.Tree.{row_at, row_count}
use Rattle.rules.specs.Rows.{range_good, split_good, strip_good, side_good, box_good, ends_good, leaf_good, good}
use Rattle.rules.specs.Questions.{root, left_of, right_of, leaf, size, split_in}
use Rattle.rules.specs.Build.{holds_point, row_holds, sound_from}
use Rattle.visits.specs.Nodes.{Inner, Fits, RowGood, HoldsStart}
use Rattle.visits.specs.Reached.{left_half, right_half}
use Rattle.visits.proofs.Tests.{four-yes}
use Rattle.visits.proofs.Counts.{every_of-read}

-- ---------------- a good row
-- what it tells: an inner split of a node that is no leaf, a strip that holds the start, a box and ends on the sheet
pub record GoodRow (ps : List ℤ) (r : Row) (first last : ℕ) : Type 0 where
  pub split_between : first + 1 < last → Inner first (split_in r) last
  pub split-above : first + 1 < last → pos 0 ≤ℤ r.split
  pub strip : HoldsStart r
  pub xmin-in : T (in_sheet r.xmin)
  pub xmax-in : T (in_sheet r.xmax)
  pub ymin-in : T (in_sheet r.ymin)
  pub ymax-in : T (in_sheet r.ymax)
  pub start-on : T (on_sheet (point ps first))
  pub end_on : T (on_sheet (point ps last))

-- a split above first, as a number of points
pub between-read : (first last : ℕ) (s : ℤ) → pos first <ℤ s → s <ℤ pos last → Inner first (nat_abs s) last
between-read first last (pos n) h k = record { above = omega zarith; below = omega zarith }
between-read first last (negsuc n) h k = absurd (omega zarith)

pub strip-read : (r : Row) → T (strip_good r) → HoldsStart r
strip-read r h =
    let q = four-yes (le_z r.cmin (pos 0)) (le_z (pos 0) r.cmax) (le_z r.tmin (pos 0)) (le_z (pos 0) r.tmax) h
    in record {
      cmin-low = le_z_yes q.0;
      cmax-high = le_z_yes q.1;
      tmin-low = le_z_yes q.2;
      tmax-high = le_z_yes q.3;
    }

side-read : (lo hi : ℤ) → T (side_good lo hi) → T (in_sheet lo) × T (in_sheet hi)
side-read lo hi h =
    let q = and_yes (le_z lo hi && in_sheet lo) (in_sheet hi) h in ((and_yes (le_z lo hi) (in_sheet lo) q.0).1, q.1)

pub good-read : (ps : List ℤ) (r : Row) (first last : ℕ) → T (good ps r first last) → GoodRow ps r first last
unfolding good
good-read ps r first last h =
    let four = range_good r first last && split_good r first last && strip_good r && box_good r in
    let ends = ends_good ps first last in
    let e = and_yes four ends (and_yes (four && ends) (leaf_good ps first last) h).0 in
    let f = four-yes (range_good r first last) (split_good r first last) (strip_good r) (box_good r) e.0 in
    let box = and_yes (side_good r.xmin r.xmax) (side_good r.ymin r.ymax) f.3 in
    let x = side-read r.xmin r.xmax box.0 in
    let y = side-read r.ymin r.ymax box.1 in
    let on = and_yes (on_sheet (point ps first)) (on_sheet (point ps last)) e.1 in
    let split : first + 1 < last → T (lt_z (pos first) r.split) × T (lt_z r.split (pos last)) =
    λ l. and_yes (lt_z (pos first) r.split) (lt_z r.split (pos last)) (rw (lt-leb last (first + 1) l) at f.1) in
    record {
      split_between = λ l. let k = split l in between-read first last r.split (lt_z_yes k.0) (lt_z_yes k.1);
      split-above = λ l. let k = lt_z_yes {a = pos first} {b = r.split} (split l).0 in omega zarith;
      strip = strip-read r f.2;
      xmin-in = x.0;
      xmax-in = x.1;
      ymin-in = y.0;
      ymax-in = y.1;
      start-on = on.0;
      end_on = on.1;
    }

-- a good row of more than one segment splits at an inner point
pub good-inner : (ps t : List ℤ) (n : Node) → RowGood ps t n → n.first + 1 < n.last
    → Inner n.first (split_in (row_at t n.row)) n.last
good-inner ps t n g = (good-read ps (row_at t n.row) n.first n.last g).split_between

-- ---------------- where the rows of a node stand
pub root-fits : (ps : List ℤ) → 1 ≤ segments_of ps → Fits (row_count (segments_of ps)) (root ps)
root-fits ps h = record { some-segment = h; rows_in = omega arith }

pub fits-row : {rows : ℕ} {n : Node} → Fits rows n → n.row < rows
fits-row f = omega (arith, f.some-segment, f.rows_in)

module _ {rows : ℕ} {n : Node} (f : Fits rows n) {s : ℕ} (i : Inner n.first s n.last) where
  pub fits-left : Fits rows (left_of n s)
  fits-left = record { some-segment = i.above; rows_in = omega (arith, f.rows_in, i.above, i.below) }

  pub fits-right : Fits rows (right_of n s)
  fits-right = record { some-segment = i.below; rows_in = omega (arith, f.rows_in, i.above) }

-- of a pair that is not two leaves, a node with no fewer segments than the other is no leaf
pub larger-opens : (a b : Node) → T (not (leaf a && leaf b)) → size b ≤ size a → a.first + 1 < a.last
larger-opens a b h k =
    ⊎_elim (nleb→lt a.last (a.first + 1)) (λ l. let m = nleb→lt b.last (b.first + 1) l in omega arith)
    (and_no (leaf a) (leaf b) h)

-- of a pair that is not two leaves, the other node is no leaf where it has more segments
pub other-opens : (a b : Node) → T (not (leaf a && leaf b)) → size a < size b → b.first + 1 < b.last
other-opens a b h k = larger-opens b a (subst (λ (u : Bool). T (not u)) (and_comm (leaf a) (leaf b)) h) (omega arith)

-- ---------------- a sound table, at a node
pub record SoundNode (f : ℕ) (ps t : List ℤ) (n : Node) : Type 0 where
  pub row-good : RowGood ps t n
  pub holds : (i : ℕ) → n.first ≤ i → i ≤ n.last
      → T (holds_point (row_at t n.row) ps n.first n.last (point ps i))
  pub halves : n.first + 1 < n.last → T (sound_from f ps t (left_half t n)) × T (sound_from f ps t (right_half t n))

pub sound-read : (f : ℕ) (ps t : List ℤ) (n : Node) → n.first < n.last → T (sound_from (suc f) ps t n)
    → SoundNode f ps t n
unfolding sound_from row_holds
sound-read f ps t n l h =
    let row = good ps (row_at t n.row) n.first n.last in
    let left = sound_from f ps t (left_half t n) in
    let right = sound_from f ps t (right_half t n) in
    let held = row_holds ps (row_at t n.row) n.first n.last in
    let q = and_yes (row && held) (cond (leaf n) true (left && right)) h in
    let g = and_yes row held q.0 in
    record {
      row-good = g.0;
      holds = λ i a b. every_of-read _ n.first (suc (size n)) g.1 i a (omega arith);
      halves = λ m. and_yes left right (rw (lt-leb n.last (n.first + 1) m) at q.1);
    }
