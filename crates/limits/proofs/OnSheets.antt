-- A point that passes the rules' test has both coordinates bounded, and the other way round.
use Prim.Native.Nat.{ℕ}
use lib.Dec.{T}
use lib.IntN.{ℤ, pos, neg_ℤ}
use lib.Signed.{le_z, le_z_yes}
use mir.Facts.{and_yes, yes_and}
use Rattle.integers.specs.Range.{Abs≤, abs-of, abs-lo, abs-hi}
use Rattle.rules.specs.declared.Point.{Point}
use Rattle.rules.specs.Sheet.{between, in_sheet, on_sheet}
use Rattle.limits.specs.Small.{OnSheet}

-- ---------------- one number
pub between-abs : (m : ℕ) (v : ℤ) → T (between m v) → Abs≤ m v
unfolding between
between-abs m v t = let h = and_yes (le_z (neg_ℤ (pos m)) v) (le_z v (pos m)) t in abs-of (le_z_yes h.0) (le_z_yes h.1)

pub abs-between : (m : ℕ) (v : ℤ) → Abs≤ m v → T (between m v)
unfolding between
abs-between m v h = yes_and (le_z (neg_ℤ (pos m)) v) (le_z v (pos m)) (abs-lo h).le (abs-hi h).le

-- ---------------- a point
pub on-sheet : (p : Point) → T (on_sheet p) → OnSheet p
on-sheet p t =
    let h = and_yes (in_sheet p.x) (in_sheet p.y) t in
    record { x-in = between-abs _ p.x h.0; y-in = between-abs _ p.y h.1 }

pub sheet-on : (p : Point) → OnSheet p → T (on_sheet p)
sheet-on p h =
    yes_and (in_sheet p.x) (in_sheet p.y) (abs-between _ p.x h.x-in) (abs-between _ p.y h.y-in)
