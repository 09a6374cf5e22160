-- A text line is a list of bytes: its fields are parted by tabs, and words are compared byte for byte.
use Rattle.std.specs.Prelude.{Bool, List, [], ℕ, eqb, get_or, bytes_eq}
use Rattle.std.specs.List.{slice_split}
-- b at the front of the first field
pub use Rattle.std.specs.List.{onto_first}

abbrev pub tab : ℕ
tab = 9

abbrev pub line_feed : ℕ
line_feed = 10

-- n tabs part n + 1 fields
unfoldable pub fields : List ℕ → List (List ℕ)
fields = slice_split (λ b. eqb b tab)

-- field k, empty where there is none
abbrev pub field : List (List ℕ) → ℕ → List ℕ
field fs k = get_or fs k []

-- byte for byte
unfoldable pub same_bytes : List ℕ → List ℕ → Bool
same_bytes = bytes_eq
