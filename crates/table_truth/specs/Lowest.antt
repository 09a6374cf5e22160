-- What the lowest of the k numbers i, i + 1, .. that has p is, or i + k where none has.
use Rattle.std.specs.Prelude.{◌≡◌, Bool, true, false, ℕ, ◌+◌, ◌≤◌, ◌<◌}

pub record Lowest (p : ℕ → Bool) (i k n : ℕ) : Type 0 where
  pub from : i ≤ n
  pub upto : n ≤ i + k
  pub before : (j : ℕ) → i ≤ j → j < n → p j ≡ false
  pub found : n < i + k → p n ≡ true
