-- Bytes written into a slice.
use Rattle.std.specs.Prelude.{◌≡◌, List, ◌++◌, ℕ, ◌+◌, length, take, drop}

-- bytes are written from place at on, all else is as it was; the next place is behind them
pub record Put (before : List ℕ) (at : ℕ) (bytes after : List ℕ) (next : ℕ) : Type 0 where
  pub written : after ≡ take at before ++ (bytes ++ drop (at + length bytes) before)
  pub behind : next ≡ at + length bytes
