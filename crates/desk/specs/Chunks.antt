-- The same program as it is carried from byte to byte, and so from chunk to chunk: the desk, and the bytes of the text
-- line that has not ended. Of a text line that is too long one byte more than it may have is kept: it is not understood
-- in any case.
use Rattle.std.specs.Prelude.{cond, List, [], ◌∷◌, ◌++◌, ℕ, eqb, leb, length}
use Rattle.words.specs.Fields.{line_feed}
use Rattle.words.specs.Records.{longest}
use Rattle.desk.specs.Desk.{Desk, opened, take_text, bytes_of}

pub record Carry : Type 0 where
  pub desk : Desk
  pub pending : List ℕ

abbrev pub begun : Carry
begun = record { desk = opened; pending = [] }

abbrev pub keep : List ℕ → ℕ → List ℕ
keep text b = cond (leb (length text) longest) (text ++ b ∷ []) text

-- what is carried past a byte, and the bytes that it prints
unfoldable pub carry_byte : Carry → ℕ → Carry
carry_byte c b =
    cond (eqb b line_feed) (record { desk = (take_text c.desk c.pending).desk; pending = [] })
    (record { desk = c.desk; pending = keep c.pending b })

unfoldable pub print_byte : Carry → ℕ → List ℕ
print_byte c b = cond (eqb b line_feed) (bytes_of (take_text c.desk c.pending)) []

-- past all the bytes of a chunk
unfoldable pub carry_chunk : Carry → List ℕ → Carry
carry_chunk c [] = c
carry_chunk c (b ∷ bs) = carry_chunk (carry_byte c b) bs

unfoldable pub print_chunk : Carry → List ℕ → List ℕ
print_chunk c [] = []
print_chunk c (b ∷ bs) = print_byte c b ++ print_chunk (carry_byte c b) bs

-- a last text line may lack its line feed
abbrev pub last_line : Desk → List ℕ → List ℕ
last_line d [] = []
last_line d (b ∷ bs) = bytes_of (take_text d (b ∷ bs))

abbrev pub print_last : Carry → List ℕ
print_last c = last_line c.desk c.pending

-- chunk after chunk, and the end of input
unfoldable pub print_chunks : Carry → List (List ℕ) → List ℕ
print_chunks c [] = print_last c
print_chunks c (chunk ∷ chunks) = print_chunk c chunk ++ print_chunks (carry_chunk c chunk) chunks

unfoldable pub join_all : List (List ℕ) → List ℕ
join_all [] = []
join_all (chunk ∷ chunks) = chunk ++ join_all chunks
