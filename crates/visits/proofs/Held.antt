-- That a row holds a point, read from the test: c, t, x and y of the point lie between the row's least and greatest.
-- Each dismissal starts from this.
use mathlib.Core.List.{List}
use Prim.Native.Nat.{ℕ}
use lib.Dec.{T}
use lib.IntN.{ℤ}
use lib.Signed.{le_z, ◌≤ℤ◌, le_z_yes}
use mir.Facts.{and_yes, yes_and}
use Rattle.rules.specs.declared.Point.{Point}
use Rattle.rules.specs.declared.Row.{Row}
use Rattle.rules.specs.Plane.{direction, c_at, t_at}
use Rattle.rules.specs.Sheet.{point}
use Rattle.rules.specs.Tree.{node_c, node_t}
use Rattle.rules.specs.Build.{holds_number, strip_holds, box_holds, holds_point}

-- v lies between lo and hi
abbrev pub Within : ℤ → ℤ → ℤ → Type 0
Within lo hi v = (lo ≤ℤ v) × (v ≤ℤ hi)

-- exactly where the test says so
pub number-held : (lo hi v : ℤ) → T (holds_number lo hi v) → Within lo hi v
number-held lo hi v t = let h = and_yes (le_z lo v) (le_z v hi) t in (le_z_yes h.0, le_z_yes h.1)

pub held_number : {lo hi v : ℤ} → Within lo hi v → T (holds_number lo hi v)
held_number {lo} {hi} {v} h = yes_and (le_z lo v) (le_z v hi) h.0.le h.1.le

-- a row, of start s and direction u, holds p in its strip and in its box
pub record Held (r : Row) (s u p : Point) : Type 0 where
  pub c : Within r.cmin r.cmax (c_at s u p)
  pub t : Within r.tmin r.tmax (t_at s u p)
  pub x : Within r.xmin r.xmax p.x
  pub y : Within r.ymin r.ymax p.y

-- a row that holds a point by the test holds it
pub held : (r : Row) (ps : List ℤ) (first last : ℕ) (p : Point)
    → T (holds_point r ps first last p) → Held r (point ps first) (direction (point ps first) (point ps last)) p
unfolding holds_point
held r ps first last p h =
    let c = node_c ps first last p in
    let t = node_t ps first last p in
    let q = and_yes (strip_holds r c t) (box_holds r p) h in
    let strip = and_yes (holds_number r.cmin r.cmax c) (holds_number r.tmin r.tmax t) q.0 in
    let box = and_yes (holds_number r.xmin r.xmax p.x) (holds_number r.ymin r.ymax p.y) q.1 in
    record {
      c = number-held r.cmin r.cmax c strip.0;
      t = number-held r.tmin r.tmax t strip.1;
      x = number-held r.xmin r.xmax p.x box.0;
      y = number-held r.ymin r.ymax p.y box.1;
    }
