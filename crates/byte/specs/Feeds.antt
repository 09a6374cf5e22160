-- What the code carries from byte to byte, in the words of the definitions, and what it promises of bytes.
use Rattle.std.specs.Prelude.{◌≡◌, List, ℕ, ◌+◌, ◌≤◌, length, take}
use Rattle.print.specs.Put.{Put}
use Rattle.desk.specs.Chunks.{Carry, carry_chunk, print_chunk}
use Rattle.store.specs.declared.State.{State}
use Rattle.records.specs.Left.{Slices, chunk_left}
use Rattle.records.specs.Built.{built_in, chunk_built}
use Rattle.records.specs.Carried.{desk_of, Bounds}

-- the desk, with the bytes that are kept of the text line that has not ended
abbrev pub carry_of : State → Slices → Carry
carry_of s l =
    record { desk = desk_of s l.numbers.stores.a l.numbers.stores.b; pending = take s.pending l.text }

-- ---- the state past bytes, and up to where the lent slice is written
pub record Fed : Type 0 where
  pub state : State
  pub wrote : ℕ

abbrev pub fed : State → ℕ → Fed
fed s n = record { state = s; wrote = n }

-- ---- what bytes come to: what is carried, left in the slices, built and printed is the definition's
module _ (s : State) (lent : Slices) where
  pub record Feeds (bytes before : List ℕ) (at : ℕ) (r : Fed) (after : Slices) (out : List ℕ) : Type 0 where
    pub carried : carry_of r.state after ≡ carry_chunk (carry_of s lent) bytes
    pub left : after ≡ chunk_left (carry_of s lent) lent bytes
    pub built : built_in r.state ≡ chunk_built (carry_of s lent) lent (built_in s) bytes
    pub printed : Put before at (print_chunk (carry_of s lent) bytes) out r.wrote
    pub bounds : Bounds r.state
    pub read : r.state.read ≤ s.read + length bytes
