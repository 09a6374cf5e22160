-- A ring, and the same ring asked from another of its points as the first.
use Rattle.std.specs.Prelude.{◌≡◌, List, ◌++◌, ℕ, ◌+◌, ◌*◌, ◌≤◌, ℤ, length, take, drop}
use Rattle.rules.specs.Sheet.{point, points_of, segments_of}

-- whole points, at least one segment, and the first point again as the last
pub record Ring (ps : List ℤ) : Type 0 where
  pub pairs : length ps ≡ 2 * points_of ps
  pub some : 1 ≤ segments_of ps
  pub closed : point ps 0 ≡ point ps (segments_of ps)

-- from point k on: the points k to the last one, then the points 1 to k
unfoldable pub restarted : ℕ → List ℤ → List ℤ
restarted k ps = drop (2 * k) ps ++ drop 2 (take (2 * k + 2) ps)
