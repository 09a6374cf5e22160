-- What the program holds once bytes are read, however many: its state and the slices are what the definitions carry and
-- leave past these bytes, from a program that has begun, from slices of zeros, and with no table built.
use Rattle.std.specs.Prelude.{◌≡◌, List, ℕ, ◌≤◌, length}
use Rattle.desk.specs.Chunks.{begun, carry_chunk}
use Rattle.store.specs.declared.State.{State}
use Rattle.records.specs.Left.{Slices, chunk_left}
use Rattle.records.specs.Built.{built_in, none_built, chunk_built}
use Rattle.records.specs.Carried.{Bounds}
use Rattle.byte.specs.Feeds.{carry_of}
use Rattle.chunks.specs.Opened.{zeros}

-- the bytes that are read at once
abbrev pub chunk_bytes : ℕ
chunk_bytes = 1024

-- ---- past these bytes; there are no more text lines than bytes
pub record After (input : List ℕ) (s : State) (l : Slices) : Type 0 where
  pub carried : carry_of s l ≡ carry_chunk begun input
  pub left : l ≡ chunk_left begun zeros input
  pub built : built_in s ≡ chunk_built begun zeros none_built input
  pub bounds : Bounds s
  pub read : s.read ≤ length input

-- ---- past so many bytes
pub record AfterBytes (n : ℕ) (s : State) (l : Slices) : Type 0 where
  pub input : List ℕ
  pub count : length input ≡ n
  pub after : After input s l
