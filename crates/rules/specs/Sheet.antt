-- docs/RULES.md, section 1: how points lie in a list, and the sizes. The only place that knows the limits.
use Rattle.std.specs.Prelude.{Bool, ◌&&◌, List, ℕ, ◌+◌, ◌*◌, ◌-◌, ◌/◌, ℤ, pos, neg_ℤ, length, get_or}
use Rattle.std.specs.Int.Signed.{le_z}
use Rattle.rules.specs.declared.Point.{Point}

-- points lie as x, y, x, y
abbrev pub point : List ℤ → ℕ → Point
point ps i = record { x = get_or ps (2 * i) (pos 0); y = get_or ps (2 * i + 1) (pos 0) }

abbrev pub points_of : List ℤ → ℕ
points_of ps = length ps / 2

-- n = points - 1 segments
abbrev pub segments_of : List ℤ → ℕ
segments_of ps = points_of ps - 1

-- points 2 to 4,097
abbrev pub fewest : ℕ
fewest = 2

abbrev pub most : ℕ
most = 4097

-- coordinates -1,000,000 to 1,000,000
abbrev pub limit : ℕ
limit = 1000000

-- distance 0 to 2,000,000
abbrev pub farthest : ℕ
farthest = 2000000

-- v lies between -m and m
unfoldable pub between : ℕ → ℤ → Bool
between m v = le_z (neg_ℤ (pos m)) v && le_z v (pos m)

abbrev pub in_sheet : ℤ → Bool
in_sheet v = between limit v

abbrev pub on_sheet : Point → Bool
on_sheet p = in_sheet p.x && in_sheet p.y

abbrev pub distance_fits : ℤ → Bool
distance_fits D = le_z (pos 0) D && le_z D (pos farthest)
