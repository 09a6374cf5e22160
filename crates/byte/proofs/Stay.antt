-- A line whose table is built stays ready past any bytes.
use mathlib.Core.Bool.{Bool, true, false, cond}
use mathlib.Core.List.{List, [], ◌∷◌}
use Prim.Native.Nat.{ℕ}
use lib.Dec.{eqb}
use Rattle.words.specs.Fields.{line_feed}
use Rattle.desk.specs.Chunks.{Carry, carry_byte, carry_chunk}
use Rattle.desk.proofs.Chunks.{carried}
use Rattle.ready.specs.declared.TablesBuilt.{TablesBuilt}
use Rattle.records.specs.Left.{Slices, byte_left, chunk_left}
use Rattle.records.specs.Built.{text_built, byte_built, chunk_built}
use Rattle.records.proofs.Stay.{Stay, text-stay}
use Rattle.byte.proofs.Byte.{leaving}

byte-stay : (k : TablesBuilt) (c : Carry) (l : Slices) (b : ℕ) → Stay k c.desk l.numbers.tables
    → Stay (byte_built c l k b) (carry_byte c b).desk (byte_left c l b).numbers.tables
unfolding byte_built carry_byte byte_left
byte-stay k c l b h = go (eqb b line_feed)
  where
    go : (feed : Bool) → Stay (cond feed (text_built c.desk l.numbers.tables k c.pending) k)
        (carried c b feed).desk (leaving c b l feed).numbers.tables
    go true = text-stay k c.desk l.numbers c.pending h
    go false = h

pub chunk-stay : (k : TablesBuilt) (c : Carry) (l : Slices) (bytes : List ℕ) → Stay k c.desk l.numbers.tables
    → Stay (chunk_built c l k bytes) (carry_chunk c bytes).desk (chunk_left c l bytes).numbers.tables
unfolding chunk_built carry_chunk chunk_left
chunk-stay k c l [] h = h
chunk-stay k c l (b ∷ bs) h =
    chunk-stay (byte_built c l k b) (carry_byte c b) (byte_left c l b) bs (byte-stay k c l b h)
