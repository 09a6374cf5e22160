-- One printed line: ordinal, word, visits, refusal number or 0, line A, B or - , place or 0; fields parted by tabs.
use Rattle.std.specs.Prelude.{List, [], ◌∷◌, ◌++◌, ℕ}
use Rattle.rules.specs.declared.Line.{Line}
use Rattle.rules.specs.declared.Line.TheVariants.{NoLine, LineA, LineB}
use Rattle.rules.specs.declared.Word.{Word}
use Rattle.rules.specs.declared.Word.TheVariants.{YES, NO, INSIDE, OUTSIDE, ON, UNDECIDED, REFUSED}
use Rattle.rules.specs.declared.Reply.{Reply}
use Rattle.print.specs.Decimal.{decimal}

-- the words in bytes
abbrev pub word_bytes : Word → List ℕ
word_bytes YES = 89 ∷ 69 ∷ 83 ∷ []
word_bytes NO = 78 ∷ 79 ∷ []
word_bytes INSIDE = 73 ∷ 78 ∷ 83 ∷ 73 ∷ 68 ∷ 69 ∷ []
word_bytes OUTSIDE = 79 ∷ 85 ∷ 84 ∷ 83 ∷ 73 ∷ 68 ∷ 69 ∷ []
word_bytes ON = 79 ∷ 78 ∷ []
word_bytes UNDECIDED = 85 ∷ 78 ∷ 68 ∷ 69 ∷ 67 ∷ 73 ∷ 68 ∷ 69 ∷ 68 ∷ []
word_bytes REFUSED = 82 ∷ 69 ∷ 70 ∷ 85 ∷ 83 ∷ 69 ∷ 68 ∷ []

abbrev pub line_byte : Line → ℕ
line_byte NoLine = 45
line_byte LineA = 65
line_byte LineB = 66

unfoldable pub printed : ℕ → Reply → List ℕ
printed ordinal r =
    decimal ordinal ++ 9 ∷ word_bytes r.word ++ 9 ∷ decimal r.visits ++ 9 ∷ decimal r.number
    ++ 9 ∷ line_byte r.line ∷ [] ++ 9 ∷ decimal r.place ++ 10 ∷ []

-- no printed line is longer: 20 + 1 + 9 + 1 + 20 + 1 + 20 + 1 + 1 + 1 + 20 + 1
abbrev pub widest : ℕ
widest = 96
