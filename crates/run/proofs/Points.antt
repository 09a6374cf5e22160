-- A point that is read of a line on the sheet is on the sheet.
use mathlib.Core.Path.{◌≡◌, sym, subst}
use mathlib.Core.List.{List}
use Prim.Native.Nat.{ℕ, ◌<◌}
use lib.IntN.{ℤ}
use Rattle.integers.specs.Order.{T_true}
use Rattle.rules.specs.declared.Point.{Point}
use Rattle.rules.specs.Sheet.{point, points_of}
use Rattle.limits.specs.Small.{OnSheet}
use Rattle.limits.proofs.OnSheets.{on-sheet}
use Rattle.run.specs.Run.{AllOnSheet}

pub read-on : (q : List ℤ) → AllOnSheet q → (i : ℕ) → i < points_of q → {p : Point} → p ≡ point q i → OnSheet p
read-on q h i l e = subst OnSheet (sym e) (on-sheet (point q i) (T_true (h i l)))
