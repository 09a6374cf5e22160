-- The whole case of docs/RULES.md, section 7.9, of the definition, by computation: seven text lines, the last without
-- its line feed.
use mathlib.Core.Path.{◌≡◌, refl}
use mathlib.Core.List.{List, [], ◌∷◌}
use Prim.Native.Nat.{ℕ}
use Rattle.rules.specs.Plane.{direction}
use Rattle.rules.specs.Sheet.{between}
use Rattle.rules.specs.Tree.{least, greatest, height, better, best, split_of, row_at, measured, rows_of}
use Rattle.rules.specs.Plain.{within}
use Rattle.rules.specs.Walk.{walk}
use Rattle.rules.specs.Rows.{good}
use Rattle.rules.specs.Questions.{shortfall, far_from, near_visit, near_reply}
use Rattle.rules.specs.Build.{lowest, build_refusal, table_of}
use Rattle.numerals.specs.Numerals.{all_digits, value_from, numeral}
use Rattle.words.specs.Fields.{fields, same_bytes}
use Rattle.words.specs.Records.{is, record_of}
use Rattle.print.specs.Decimal.{digits_of}
use Rattle.print.specs.Printed.{printed}
use Rattle.desk.specs.Desk.{with_table, take_text}
use Rattle.desk.specs.Program.{text_lines, replies, program}

abbrev read : List ℕ
read =
    76 ∷ 73 ∷ 78 ∷ 69 ∷ 9 ∷ 65 ∷ 10 ∷ 80 ∷ 84 ∷ 9 ∷ 48 ∷ 9 ∷ 48 ∷ 10 ∷ 80 ∷ 84 ∷ 9 ∷ 52 ∷ 9 ∷ 51 ∷ 10 ∷ 80 ∷ 84 ∷ 9
    ∷ 56 ∷ 9 ∷ 48 ∷ 10 ∷ 78 ∷ 69 ∷ 65 ∷ 82 ∷ 9 ∷ 52 ∷ 9 ∷ 53 ∷ 9 ∷ 50 ∷ 9 ∷ 49 ∷ 48 ∷ 10 ∷ 78 ∷ 69 ∷ 65 ∷ 82 ∷ 9 ∷ 52
    ∷ 9 ∷ 53 ∷ 9 ∷ 50 ∷ 9 ∷ 49 ∷ 10 ∷ 77 ∷ 69 ∷ 69 ∷ 84 ∷ 9 ∷ 57 ∷ []

abbrev written : List ℕ
written =
    49 ∷ 9 ∷ 89 ∷ 69 ∷ 83 ∷ 9 ∷ 50 ∷ 9 ∷ 48 ∷ 9 ∷ 45 ∷ 9 ∷ 48 ∷ 10 ∷ 50 ∷ 9 ∷ 85 ∷ 78 ∷ 68 ∷ 69 ∷ 67 ∷ 73 ∷ 68 ∷ 69
    ∷ 68 ∷ 9 ∷ 49 ∷ 9 ∷ 48 ∷ 9 ∷ 45 ∷ 9 ∷ 48 ∷ 10 ∷ 51 ∷ 9 ∷ 82 ∷ 69 ∷ 70 ∷ 85 ∷ 83 ∷ 69 ∷ 68 ∷ 9 ∷ 48 ∷ 9 ∷ 50 ∷ 9
    ∷ 66 ∷ 9 ∷ 48 ∷ 10 ∷ []

pub whole-case : program read ≡ written
unfolding least greatest height better best split_of row_at measured rows_of direction between within walk good shortfall
    far_from near_visit near_reply lowest build_refusal table_of fields same_bytes all_digits value_from numeral
    is record_of digits_of printed with_table take_text text_lines replies program
whole-case = refl
