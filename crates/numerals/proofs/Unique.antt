-- `within` has one outcome alone: its promise is an equation.
use mathlib.Core.Path.{◌≡◌, sym, ◌∙◌}
use mathlib.Core.List.{List}
use Prim.Native.Nat.{ℕ}
use lib.IntN.{ℤ}
use Rattle.std.specs.Prelude.{Option}
use Rattle.numerals.specs.Numerals.{numeral, in_range, only_if}

-- two outcomes of a field and a range are the same
pub number-unique : (f : List ℕ) (lo hi : ℤ) {a b : Option ℤ} → a ≡ only_if (in_range lo hi) (numeral f)
    → b ≡ only_if (in_range lo hi) (numeral f) → a ≡ b
number-unique f lo hi d e = d ∙ sym e
