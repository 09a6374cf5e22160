-- What the program's desk holds, as the lists that the definitions speak of.
use Rattle.std.specs.Prelude.{◌≡◌}
use Rattle.records.specs.declared.kept.Desk.{Desk}
use Rattle.records.specs.Left.{Numbers, numbers, Slices, slices}

-- the numbers of the two lines
abbrev pub numbers_of : Desk → Numbers
numbers_of d = numbers d.a d.b d.table_a d.table_b

-- .. and the bytes of the text line that has not ended
abbrev pub slices_of : Desk → Slices
slices_of d = slices d.a d.b d.table_a d.table_b d.text

-- ---- neither the tables nor the text line that has not ended change
pub record SameRest (d after : Desk) : Type 0 where
  pub table-a : after.table_a ≡ d.table_a
  pub table-b : after.table_b ≡ d.table_b
  pub text : after.text ≡ d.text
