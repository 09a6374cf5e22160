-- What is measured of a run of points that is handed on by itself, its points counted from 0.
use Rattle.std.specs.Prelude.{◌≡◌, Bool, true, cond, ◌&&◌, ◌||◌, List, ℕ, ◌<◌, ltb, eqb, ℤ, pos, nat_abs}
use Rattle.integers.specs.Order.{min_z, max_z}
use Rattle.rules.specs.declared.Point.{Point}
use Rattle.rules.specs.Plane.{step, size²}
use Rattle.rules.specs.Sheet.{point, points_of, segments_of, on_sheet}
use Rattle.rules.specs.Tree.{height, off_middle, split_of, measured, no_split}
use Rattle.run.specs.declared.Span.{Span}
use Rattle.run.specs.declared.Top.{Top}
use Rattle.run.specs.declared.Measured.{Measured}

-- every point is on the sheet
abbrev pub AllOnSheet : List ℤ → Type 0
AllOnSheet ps = (i : ℕ) → i < points_of ps → on_sheet (point ps i) ≡ true

-- ---- a run as far as it is read
-- two numbers, and one more
abbrev pub span_of : ℤ → ℤ → Span
span_of a b = record { lo = min_z a b; hi = max_z a b }

abbrev pub span_with : Span → ℤ → Span
span_with s v = record { lo = min_z s.lo v; hi = max_z s.hi v }

-- point i, of this height, takes the place of the split s of this height
abbrev pub higher : ℕ → ℕ → ℕ → ℕ → ℕ → Bool
higher last s top i h = ltb top h || (eqb top h && ltb (off_middle 0 last i) (off_middle 0 last s))

abbrev pub top_with : ℕ → Top → ℕ → ℕ → Top
top_with last top i h = cond (higher last top.split top.height i h) (record { split = i; height = h }) top

-- the two ends alone, with point 1 for the split until it is read, and one more point, number i, with its c and t
abbrev pub ends_of : Point → Point → Measured
ends_of a b = record {
  c = record { lo = pos 0; hi = pos 0 };
  t = record { lo = pos 0; hi = size² (step a b) };
  x = span_of a.x b.x;
  y = span_of a.y b.y;
  top = record { split = 1; height = 0 };
}

abbrev pub measured_with : Measured → ℤ → ℤ → Point → ℕ → ℕ → Measured
measured_with m c t p last i = record {
  c = span_with m.c c;
  t = span_with m.t t;
  x = span_with m.x p.x;
  y = span_with m.y p.y;
  top = top_with last m.top i (nat_abs c);
}

-- ---- a whole run: the strip and the box of its row, and its split, which of one segment is its last point
abbrev pub measure_of : List ℤ → Measured
measure_of q =
    let r = measured q 0 (segments_of q) no_split in
    let s = split_of q 0 (segments_of q) in
    record {
      c = record { lo = r.cmin; hi = r.cmax };
      t = record { lo = r.tmin; hi = r.tmax };
      x = record { lo = r.xmin; hi = r.xmax };
      y = record { lo = r.ymin; hi = r.ymax };
      top = record { split = s; height = height q 0 (segments_of q) s };
    }
