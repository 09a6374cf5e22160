-- How large the numbers of an old row are: each fits an i32.
use Rattle.std.specs.Prelude.{List, [], ◌∷◌, ℕ, ◌*◌, ℤ}
use Rattle.std.specs.Int.{w32}
use Rattle.std.proofs.Common.{SFits}
use Rattle.integers.specs.Range.{Abs≤}
use Rattle.rules.specs.declared.Row.{Row}
use Rattle.rules.specs.Sheet.{most}
use Rattle.rules.specs.Old.{old_limit}

-- |c| and |t| on the old sheet: below 2^31
abbrev pub old_widest : ℕ
old_widest = 2 * (2 * old_limit) * (2 * old_limit)

pub record RowRange (r : Row) : Type 0 where
  pub first : Abs≤ most r.first
  pub last : Abs≤ most r.last
  pub split : Abs≤ most r.split
  pub cmin : Abs≤ old_widest r.cmin
  pub cmax : Abs≤ old_widest r.cmax
  pub tmin : Abs≤ old_widest r.tmin
  pub tmax : Abs≤ old_widest r.tmax
  pub xmin : Abs≤ old_limit r.xmin
  pub xmax : Abs≤ old_limit r.xmax
  pub ymin : Abs≤ old_limit r.ymin
  pub ymax : Abs≤ old_limit r.ymax

-- each number of a list fits an i32
abbrev pub AllFit : List ℤ → Type 0
AllFit [] = Unit {0}
AllFit (z ∷ zs) = SFits w32 z × AllFit zs
