-- The bytes that the program writes for the bytes that it reads: text lines end with a line feed, the last may lack it.
use Rattle.std.specs.Prelude.{cond, List, [], ◌∷◌, ◌++◌, ℕ, eqb}
use Rattle.words.specs.Fields.{line_feed, onto_first}
use Rattle.desk.specs.Desk.{Desk, opened, take_text, bytes_of}

-- the text lines: an empty rest after the last line feed is none
unfoldable pub text_lines : List ℕ → List (List ℕ)
text_lines [] = []
text_lines (b ∷ bs) = let rest = text_lines bs in cond (eqb b line_feed) ([] ∷ rest) (onto_first b rest)

-- one after another
unfoldable pub replies : Desk → List (List ℕ) → List ℕ
replies d [] = []
replies d (text ∷ texts) = bytes_of (take_text d text) ++ replies (take_text d text).desk texts

unfoldable pub program : List ℕ → List ℕ
program bytes = replies opened (text_lines bytes)
