-- The records of the question program. Any other record, and a text line above 80 bytes, is not understood.
use Rattle.std.specs.Prelude.{Bool, cond, ◌&&◌, List, [], ◌∷◌, ℕ, eqb, leb, ℤ, nat_abs, length, Option, Some, None}
use Rattle.rules.specs.declared.Line.TheVariants.{LineA, LineB}
use Rattle.numerals.specs.Numerals.{numeral, only_if, fits_i32, fits_u32}
use Rattle.words.specs.declared.Record.{Record}
use Rattle.words.specs.declared.Record.TheVariants.{Start, Pt, Near, In, Meet, Agree, NotUnderstood}
use Rattle.words.specs.Fields.{fields, field, same_bytes}

-- the words, in bytes
abbrev pub LINE : List ℕ
LINE = 76 ∷ 73 ∷ 78 ∷ 69 ∷ []

abbrev pub PT : List ℕ
PT = 80 ∷ 84 ∷ []

abbrev pub NEAR : List ℕ
NEAR = 78 ∷ 69 ∷ 65 ∷ 82 ∷ []

abbrev pub MEET : List ℕ
MEET = 77 ∷ 69 ∷ 69 ∷ 84 ∷ []

abbrev pub IN : List ℕ
IN = 73 ∷ 78 ∷ []

abbrev pub AGREE : List ℕ
AGREE = 65 ∷ 71 ∷ 82 ∷ 69 ∷ 69 ∷ []

abbrev pub A : List ℕ
A = 65 ∷ []

abbrev pub B : List ℕ
B = 66 ∷ []

-- text lines of at most 80 bytes
abbrev pub longest : ℕ
longest = 80

-- word, and one field for each number: of so many fields the first is this word
unfoldable pub is : ℕ → List ℕ → List ℕ → ℕ → Bool
is count first word wanted = eqb count wanted && same_bytes first word

abbrev pub line_named : List ℕ → Record
line_named f = cond (same_bytes f A) (Start LineA) (cond (same_bytes f B) (Start LineB) NotUnderstood)

-- the number in field k: coordinates and distances fit i32, allowances u32
abbrev pub coordinate : List (List ℕ) → ℕ → Option ℤ
coordinate fs k = only_if fits_i32 (numeral (field fs k))

abbrev pub allowance : List (List ℕ) → ℕ → Option ℤ
allowance fs k = only_if fits_u32 (numeral (field fs k))

-- a record is understood if each of its numbers is
abbrev pub given : Option ℤ → (ℤ → Record) → Record
given None go = NotUnderstood
given (Some z) go = go z

-- PT x y; NEAR x y D allowance; IN x y allowance; MEET allowance; AGREE D allowance
abbrev pub numbered : ℕ → List ℕ → List (List ℕ) → Record
numbered count word fs =
    cond (is count word PT 3) (given (coordinate fs 1) λ x. given (coordinate fs 2) λ y. Pt x y)
    (cond (is count word NEAR 5)
    (given (coordinate fs 1) λ x. given (coordinate fs 2) λ y. given (coordinate fs 3) λ d.
    given (allowance fs 4) λ a. Near x y d (nat_abs a))
    (cond (is count word IN 4)
    (given (coordinate fs 1) λ x. given (coordinate fs 2) λ y. given (allowance fs 3) λ a. In x y (nat_abs a))
    (cond (is count word MEET 2) (given (allowance fs 1) λ a. Meet (nat_abs a))
    (cond (is count word AGREE 3) (given (coordinate fs 1) λ d. given (allowance fs 2) λ a. Agree d (nat_abs a))
    NotUnderstood))))

-- of so many fields, the first of which is the word
abbrev pub record_in : ℕ → List ℕ → List (List ℕ) → Record
record_in count word fs = cond (is count word LINE 2) (line_named (field fs 1)) (numbered count word fs)

unfoldable pub record_of : List ℕ → Record
record_of text =
    let fs = fields text in cond (leb (length text) longest) (record_in (length fs) (field fs 0) fs) NotUnderstood
