-- What the desk holds afterwards, number by number and byte by byte: the two stores, the two tables, and the
-- text line that has not ended.
use Rattle.std.specs.Prelude.{cond, List, [], ◌∷◌, ℕ, eqb, ℤ, length}
use Rattle.rules.specs.declared.Line.{Line}
use Rattle.rules.specs.declared.Line.TheVariants.{NoLine, LineA, LineB}
use Rattle.rules.specs.Sheet.{points_of}
use Rattle.words.specs.declared.Record.{Record}
use Rattle.words.specs.declared.Record.TheVariants.{Start, Pt, Near, In, Meet, Agree, NotUnderstood}
use Rattle.words.specs.Fields.{line_feed}
use Rattle.words.specs.Records.{record_of}
use Rattle.desk.specs.Desk.{Desk, count_text}
use Rattle.desk.specs.Chunks.{Carry, carry_byte}
use Rattle.ready.specs.Left.{first_after, second_after}
use Rattle.answers.specs.Asked.{needed_by}
use Rattle.store.specs.States.{point_left, kept_left}

-- ---- the numbers of the two lines, in their stores or in their tables
pub record Both : Type 0 where
  pub a : List ℤ
  pub b : List ℤ

abbrev pub both : List ℤ → List ℤ → Both
both a b = record { a = a; b = b }

pub record Numbers : Type 0 where
  pub stores : Both
  pub tables : Both

abbrev pub numbers : List ℤ → List ℤ → List ℤ → List ℤ → Numbers
numbers a b table_a table_b = record { stores = both a b; tables = both table_a table_b }

-- and the bytes of the text line that has not ended
pub record Slices : Type 0 where
  pub numbers : Numbers
  pub text : List ℕ

abbrev pub slices : List ℤ → List ℤ → List ℤ → List ℤ → List ℕ → Slices
slices a b table_a table_b text = record { numbers = numbers a b table_a table_b; text = text }

-- ---- a point is written in the store of the line that points go to
abbrev pub stores_left : Desk → Line → Both → ℤ → ℤ → Both
stores_left d NoLine s x y = s
stores_left d LineA s x y = both (point_left (points_of d.a.points) s.a x y) s.b
stores_left d LineB s x y = both s.a (point_left (points_of d.b.points) s.b x y)

-- ---- a record writes a point, or leaves the tables that it needs as they are readied
abbrev pub tables_left : Desk → Both → Record → Both
tables_left d t q = both (first_after (needed_by q) d.a t.a) (second_after (needed_by q) d.a d.b t.a t.b)

abbrev pub stores_after : Desk → Both → Record → Both
stores_after d s (Pt x y) = stores_left d d.target s x y
stores_after d s (Start l) = s
stores_after d s (Near x y D allowance) = s
stores_after d s (In x y allowance) = s
stores_after d s (Meet allowance) = s
stores_after d s (Agree D allowance) = s
stores_after d s NotUnderstood = s

abbrev pub record_left : Desk → Numbers → Record → Numbers
record_left d n q = record { stores = stores_after d n.stores q; tables = tables_left d n.tables q }

unfoldable pub text_left : Desk → Numbers → List ℕ → Numbers
text_left d n text = record_left (count_text d) n (record_of text)

-- ---- a line feed ends the text line of the pending bytes, and any other byte is kept
unfoldable pub byte_left : Carry → Slices → ℕ → Slices
byte_left c l b =
    cond (eqb b line_feed) (record { numbers = text_left c.desk l.numbers c.pending; text = l.text })
    (record { numbers = l.numbers; text = kept_left (length c.pending) l.text b })

-- ---- byte after byte of a chunk
unfoldable pub chunk_left : Carry → Slices → List ℕ → Slices
chunk_left c l [] = l
chunk_left c l (b ∷ bs) = chunk_left (carry_byte c b) (byte_left c l b) bs

-- ---- the end of the input: a last text line may lack its line feed
abbrev pub last_left : Desk → Numbers → List ℕ → Numbers
last_left d n [] = n
last_left d n (b ∷ bs) = text_left d n (b ∷ bs)

abbrev pub end_left : Carry → Numbers → Numbers
end_left c n = last_left c.desk n c.pending
