-- A bounded number, stored in 64 bits, is read back as it is, and so is a point of the sheet.
use mathlib.Core.Path.{◌≡◌, sym, subst}
use Prim.Native.Nat.{ℕ, ◌^◌}
use lib.Dec.{T, ltb}
use lib.IntN.{ℤ}
use mir.Syntax.{w64}
use mir.Val.{to_z, of_z}
use mir.Facts.{to_z-of_z}
use Rattle.integers.specs.Range.{Abs≤, abs-at, fits-of}
use Rattle.rules.specs.declared.Point.{Point}
use Rattle.limits.specs.Small.{OnSheet}

-- what is read back is the number
pub stored : {B : ℕ} {z : ℤ} → Abs≤ B z → T (ltb B (2 ^ 63)) → to_z w64 (of_z w64 z) ≡ z
stored h t = to_z-of_z {w = w64} (fits-of w64 h t)

-- and so it keeps to its bound
pub stored-abs : {B : ℕ} {z : ℤ} → Abs≤ B z → T (ltb B (2 ^ 63)) → Abs≤ B (to_z w64 (of_z w64 z))
stored-abs h t = abs-at (sym (stored h t)) h

-- ---------------- a point of the sheet, its coordinates stored in 64 bits
abbrev pub read_back : Point → Point
read_back p = record { x = to_z w64 (of_z w64 p.x); y = to_z w64 (of_z w64 p.y) }

module _ {p : Point} (h : OnSheet p) where
  pub point-stored : read_back p ≡ p
  point-stored i = record { x = stored h.x-in tt i; y = stored h.y-in tt i }

  pub stored_on : OnSheet (read_back p)
  stored_on = subst OnSheet (sym point-stored) h
