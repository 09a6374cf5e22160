-- What a good row that was read gives: points, a heading and a box for exact arithmetic, and an inner split.
use mathlib.Core.Path.{◌≡◌, sym, subst, subst₂}
use mathlib.Core.Bool.{◌&&◌}
use mathlib.Core.List.{List}
use Prim.Native.Nat.{ℕ, ◌+◌, ◌<◌}
use lib.Dec.{T}
use lib.IntN.{ℤ, pos, nat_abs}
use lib.Signed.{◌≤ℤ◌}
use mir.Facts.{and_yes}
use native.Mathlib.Omega.{arith}
use Rattle.integers.specs.Laws.{zarith}
use Rattle.integers.specs.Order.{eq_z, eq_z-yes}
use Rattle.rules.specs.declared.Node.{Node}
use Rattle.rules.specs.declared.Pair.{Pair}
use Rattle.rules.specs.declared.Point.{Point}
use Rattle.rules.specs.declared.Row.{Row}
use Rattle.rules.specs.Tree.{row_at}
use Rattle.rules.specs.Rows.{range_good, split_good, strip_good, box_good, ends_good, leaf_good, good}
use Rattle.rules.specs.Questions.{split_in, start_of, end_of}
use Rattle.visits.specs.Nodes.{Inner}
use Rattle.visits.proofs.Nodes.{GoodRow, good-read, fits-row}
use Rattle.visits.proofs.Tests.{four-yes}
use Rattle.limits.specs.Small.{OnSheet}
use Rattle.apart.specs.Placed.{Placed}
use Rattle.meet_visit.specs.Pairs.{NodeStands, PairStands, HasSplit, Read}
use Rattle.meet_visit.specs.Pairs.{TellsNode, node_in, pair_in}
use Rattle.meet_visit.specs.declared.Rows.{Rows}
use Rattle.limits.proofs.OnSheets.{between-abs, on-sheet}

-- the row of a node that stands, when it is read
pub read_of : {ps t : List ℤ} {r : Row} {n : Node} → NodeStands ps t n → r ≡ row_at t n.row → Read ps r n
read_of {ps} {t} {n} h e = record {
  table = t;
  stands = h.stands;
  row-good = subst (λ (r : Row). T (good ps r n.first n.last)) (sym e) h.row-good;
}

-- ---------------- a good row tells its node
pub range-read : (ps : List ℤ) (r : Row) (first last : ℕ) → T (good ps r first last)
    → (r.first ≡ pos first) × (r.last ≡ pos last)
unfolding good
range-read ps r first last h =
    let four = range_good r first last && split_good r first last && strip_good r && box_good r in
    let ends = ends_good ps first last in
    let e = and_yes four ends (and_yes (four && ends) (leaf_good ps first last) h).0 in
    let f = four-yes (range_good r first last) (split_good r first last) (strip_good r) (box_good r) e.0 in
    let g = and_yes (eq_z r.first (pos first)) (eq_z r.last (pos last)) f.0 in
    (eq_z-yes {a = r.first} {b = pos first} g.0, eq_z-yes {a = r.last} {b = pos last} g.1)

module _ {ps t : List ℤ} {n : Node} (h : NodeStands ps t n) where
  range : ((row_at t n.row).first ≡ pos n.first) × ((row_at t n.row).last ≡ pos n.last)
  range = range-read ps (row_at t n.row) n.first n.last h.row-good

  pub node-told : node_in t n.row ≡ n
  node-told = λ i. record { row = n.row; first = nat_abs (range.0 i); last = nat_abs (range.1 i) }

  pub tells-node : TellsNode t n.row
  tells-node = record {
    in_table = let f = fits-row h.stands.fits in let g = h.stands.fine in omega (arith, f, g);
    first_above = subst (λ (z : ℤ). pos 0 ≤ℤ z) (sym range.0) (omega zarith);
    last-above = subst (λ (z : ℤ). pos 0 ≤ℤ z) (sym range.1) (omega zarith);
  }

-- the rows of a pair tell the pair
abbrev pub rows_of : Pair → Rows
rows_of n = record { a = n.a.row; b = n.b.row }

pub pair-told : {ps t qs t' : List ℤ} {n : Pair} → PairStands ps t qs t' n → pair_in t t' (rows_of n) ≡ n
pair-told h =
    let of-a = node-told h.of-a in
    let of-b = node-told h.of-b in
    λ i. record { a = of-a i; b = of-b i }

module _ {ps : List ℤ} {r : Row} {n : Node} (d : Read ps r n) where
  told : GoodRow ps r n.first n.last
  told = good-read ps r n.first n.last d.row-good

  start-on : OnSheet (start_of ps n)
  start-on = on-sheet (start_of ps n) told.start-on

  end-on : OnSheet (end_of ps n)
  end-on = on-sheet (end_of ps n) told.end_on

  pub placed : Placed r (start_of ps n) (end_of ps n)
  placed = record {
    start-on = start-on;
    end_on = end-on;
    box-on = record {
      xmin-in = between-abs _ r.xmin told.xmin-in;
      xmax-in = between-abs _ r.xmax told.xmax-in;
      ymin-in = between-abs _ r.ymin told.ymin-in;
      ymax-in = between-abs _ r.ymax told.ymax-in;
    };
  }

  -- so for the points that were read
  module _ {start end : Point} (starts : start ≡ start_of ps n) (ends : end ≡ end_of ps n) where
    pub ends_on : OnSheet start × OnSheet end
    ends_on = (subst OnSheet (sym starts) start-on, subst OnSheet (sym ends) end-on)

    pub placed_at : Placed r start end
    placed_at = subst₂ (Placed r) (sym starts) (sym ends) placed

  -- the split of a node that is no leaf is a number of points ..
  pub has_split : HasSplit r n
  has_split = record { some-segment = d.stands.fits.some-segment; split-above = told.split-above }

  -- .. inside its range
  pub split-inside : n.first + 1 < n.last → Inner n.first (split_in r) n.last
  split-inside h = told.split_between h
