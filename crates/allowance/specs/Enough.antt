-- docs/RULES.md, section 4.7: the visits that are enough.
use Rattle.std.specs.Prelude.{List, ℕ, ◌+◌, ◌*◌, ◌-◌, ℤ}
use Rattle.rules.specs.Sheet.{segments_of}

-- 2n-1 for a point and n segments
abbrev pub point_enough : List ℤ → ℕ
point_enough ps = 2 * segments_of ps - 1

-- 2nm-1 for two lines
abbrev pub pair_enough : List ℤ → List ℤ → ℕ
pair_enough ps qs = 2 * (segments_of ps * segments_of qs) - 1

-- (n+1)*(2m-1) + (m+1)*(2n-1) for agreement
abbrev pub agree_enough : List ℤ → List ℤ → ℕ
agree_enough ps qs = (segments_of ps + 1) * point_enough qs + (segments_of qs + 1) * point_enough ps
