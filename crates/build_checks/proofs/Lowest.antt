-- The lowest number below n that has p, as a search for the first of them finds it.
use mathlib.Core.Path.{◌≡◌}
use mathlib.Core.Bool.{Bool, true, false}
use Prim.Native.Nat.{ℕ, ◌≤◌, ◌<◌}
use native.Mathlib.Omega.{arith}
use Rattle.std.specs.Prelude.{Option, Some, None}
use Rattle.std.specs.Option.{MatchOption}
use Rattle.rules.specs.Build.{lowest}
use Rattle.table_truth.proofs.Refusals.{lowest-is, lowest-unique}

-- what a search over the numbers below n comes to
abbrev pub FoundFirst : (ℕ → Bool) → ℕ → Option ℕ → Type 0
FoundFirst p n r =
    MatchOption r ((k : ℕ) → 0 ≤ k → k < n → p k ≡ false)
    (λ i. (0 ≤ i) × (i < n) × (p i ≡ true) × ((k : ℕ) → 0 ≤ k → k < i → p k ≡ false))

pub lowest_found : (p : ℕ → Bool) (n : ℕ) (r : Option ℕ) → FoundFirst p n r
    → MatchOption r (lowest p 0 n ≡ n) (λ i. (i < n) × (lowest p 0 n ≡ i))
lowest_found p n None none =
    lowest-unique p 0 n (lowest p 0 n) n (lowest-is p 0 n)
    (record { from = omega arith; upto = omega arith; before = none; found = λ h. absurd (omega arith) })
lowest_found p n (Some i) at = (
  at.1,
  lowest-unique p 0 n (lowest p 0 n) i (lowest-is p 0 n)
      (record { from = omega arith; upto = omega (arith, at.1); before = at.3; found = λ _. at.2 }),
)
