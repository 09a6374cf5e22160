-- docs/RULES.md, section 2.8: tables of 32-bit numbers, by the rules of the smaller sheet, and how they are widened.
use Rattle.std.specs.Prelude.{Bool, not, ◌&&◌, List, [], ◌∷◌, ◌++◌, ℕ, ◌*◌, ltb, ℤ, length, drop}
use Rattle.std.proofs.Math.Option.{Option}
use Rattle.rules.specs.declared.Line.TheVariants.{NoLine, LineA}
use Rattle.rules.specs.declared.Refusal.{Refusal}
use Rattle.rules.specs.declared.Point.{Point}
use Rattle.rules.specs.Sheet.{point, points_of, segments_of, between}
use Rattle.rules.specs.Tree.{width, row_count}
use Rattle.rules.specs.Reply.{Check, first_refusal}
use Rattle.rules.specs.Rows.{point_checks, table_check}
use Rattle.rules.specs.Build.{lowest, neighbour_check, table_of, unless_refused}

-- coordinates -16,383 to 16,383
abbrev pub old_limit : ℕ
old_limit = 16383

abbrev pub on_old_sheet : Point → Bool
on_old_sheet p = between old_limit p.x && between old_limit p.y

-- 4 with the old limit
abbrev pub old_sheet_check : List ℤ → Check
old_sheet_check ps =
    let i = lowest (λ i. not (on_old_sheet (point ps i))) 0 (points_of ps) in
    record { holds = ltb i (points_of ps); number = 4; line = LineA; place = i }

-- 1, 2, 3, 4, 5, 6
abbrev pub old_checks : List ℤ → List ℤ → List Check
old_checks ps t = point_checks LineA ps ++ old_sheet_check ps ∷ neighbour_check ps ∷ table_check LineA ps t ∷ []

-- what an old build was refused for, and what it left in the table that was lent to it
unfoldable pub old_refusal : List ℤ → List ℤ → Option Refusal
old_refusal ps t = first_refusal (old_checks ps t)

unfoldable pub old_table : List ℤ → List ℤ → List ℤ
old_table ps t = unless_refused (old_refusal ps t) (table_of ps ++ drop (width * row_count (segments_of ps)) t) t

-- ---- widening: 6 where the lent numbers are fewer, else each number as it is, and those past them unchanged
abbrev pub widen_check : List ℤ → List ℤ → Check
widen_check old new = record { holds = ltb (length new) (length old); number = 6; line = NoLine; place = 0 }

unfoldable pub widen_refusal : List ℤ → List ℤ → Option Refusal
widen_refusal old new = first_refusal (widen_check old new ∷ [])

unfoldable pub widened : List ℤ → List ℤ → List ℤ
widened old new = unless_refused (widen_refusal old new) (old ++ drop (length old) new) new
