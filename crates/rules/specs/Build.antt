-- docs/RULES.md, section 2.6: building refused writes nothing; else the table is the described one, and numbers past
-- its rows stay unchanged. And section 2.7, what a table must be for its answers to be right, whoever wrote it: its
-- rows are good and hold their points.
use Rattle.std.specs.Prelude.{Bool, true, not, cond, ◌&&◌, List, [], ◌∷◌, ◌++◌, ℕ, zero, suc, ◌*◌, ◌-◌, ltb, ℤ, drop}
use Rattle.std.proofs.Math.Option.{Option, none, some}
use Rattle.std.specs.Int.Signed.{le_z}
use Rattle.rules.specs.declared.Line.TheVariants.{LineA}
use Rattle.rules.specs.declared.Refusal.{Refusal}
use Rattle.rules.specs.declared.Point.{Point}
use Rattle.rules.specs.Plane.{same_point}
use Rattle.rules.specs.Sheet.{point, points_of, segments_of, on_sheet}
use Rattle.rules.specs.declared.Row.{Row}
use Rattle.rules.specs.Tree.{width, row_at, rows_of, row_count, node_c, node_t}
use Rattle.rules.specs.Plain.{every_of}
use Rattle.rules.specs.Reply.{Check, first_refusal}
use Rattle.rules.specs.Rows.{point_checks, table_check, good}
use Rattle.rules.specs.declared.Node.{Node}
use Rattle.rules.specs.Questions.{root, leaf, left_of, right_of, split_in}

-- the lowest of the k numbers i, i + 1, .. that has p, or i + k where none has
unfoldable pub lowest : (ℕ → Bool) → ℕ → ℕ → ℕ
lowest p i zero = i
lowest p i (suc k) = let rest = lowest p (suc i) k in cond (p i) i rest

abbrev pub off_sheet : List ℤ → ℕ → Bool
off_sheet ps i = not (on_sheet (point ps i))

abbrev pub equal_next : List ℤ → ℕ → Bool
equal_next ps i = same_point (point ps i) (point ps (suc i))

-- 4 coordinate off the sheet, at the lowest point
abbrev pub sheet_check : List ℤ → Check
sheet_check ps =
    let i = lowest (off_sheet ps) 0 (points_of ps) in
    record { holds = ltb i (points_of ps); number = 4; line = LineA; place = i }

-- 5 two neighbours equal, after all of 4, at the lower point
abbrev pub neighbour_check : List ℤ → Check
neighbour_check ps =
    let i = lowest (equal_next ps) 0 (segments_of ps) in
    record { holds = ltb i (segments_of ps); number = 5; line = LineA; place = i }

-- 1, 2, 3, 4, 5, 6
abbrev pub build_checks : List ℤ → List ℤ → List Check
build_checks ps t = point_checks LineA ps ++ sheet_check ps ∷ neighbour_check ps ∷ table_check LineA ps t ∷ []

unfoldable pub build_refusal : List ℤ → List ℤ → Option Refusal
build_refusal ps t = first_refusal (build_checks ps t)

-- the table of a line, and what stands in a lent table after a build
unfoldable pub table_of : List ℤ → List ℤ
table_of ps = rows_of (segments_of ps) ps 0 (segments_of ps)

abbrev pub unless_refused : Option Refusal → List ℤ → List ℤ → List ℤ
unless_refused none built t = built
unless_refused (some r) built t = t

unfoldable pub built_table : List ℤ → List ℤ → List ℤ
built_table ps t = unless_refused (build_refusal ps t) (table_of ps ++ drop (width * row_count (segments_of ps)) t) t

-- ---- a table whose answers are right: at each node the row is good, and strip and box hold every point of the run
abbrev pub holds_number : ℤ → ℤ → ℤ → Bool
holds_number lo hi v = le_z lo v && le_z v hi

-- of a point, its c and its t
abbrev pub strip_holds : Row → ℤ → ℤ → Bool
strip_holds r c t = holds_number r.cmin r.cmax c && holds_number r.tmin r.tmax t

abbrev pub box_holds : Row → Point → Bool
box_holds r p = holds_number r.xmin r.xmax p.x && holds_number r.ymin r.ymax p.y

unfoldable pub holds_point : Row → List ℤ → ℕ → ℕ → Point → Bool
holds_point r ps first last p = strip_holds r (node_c ps first last p) (node_t ps first last p) && box_holds r p

unfoldable pub row_holds : List ℤ → Row → ℕ → ℕ → Bool
row_holds ps r first last = every_of (λ i. holds_point r ps first last (point ps i)) first (suc (last - first))

-- with at most this many levels
unfoldable pub sound_from : ℕ → List ℤ → List ℤ → Node → Bool
sound_from zero ps t n = true
sound_from (suc levels) ps t n =
    let s = split_in (row_at t n.row) in
    let halves = sound_from levels ps t (left_of n s) && sound_from levels ps t (right_of n s) in
    good ps (row_at t n.row) n.first n.last && row_holds ps (row_at t n.row) n.first n.last
    && cond (leaf n) true halves

unfoldable pub sound : List ℤ → List ℤ → Bool
sound ps t = sound_from (segments_of ps) ps t (root ps)
