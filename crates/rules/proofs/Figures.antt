-- docs/RULES.md, section 8: P1 to P12 of the definitions, as one list under one theorem; one small example for each of
-- the "slips that look right" that the figures do not reach; the limits of the sheet; and the checker. All by
-- computation.
use mathlib.Core.Path.{◌≡◌, refl}
use mathlib.Core.Bool.{true, false}
use mathlib.Core.List.{List, [], ◌∷◌, ◌++◌}
use mathlib.Core.Option.{Option, none, some}
use Prim.Native.Nat.{ℕ, ◌+◌, ◌*◌}
use lib.IntN.{ℤ, pos, negsuc}
use lib.ListN.{set, replicate, take}
use Rattle.rules.specs.declared.Line.TheVariants.{NoLine, LineA, LineB}
use Rattle.rules.specs.declared.Point.{Point}
use Rattle.rules.specs.declared.Refusal.{Refusal}
use Rattle.rules.specs.Plane.{direction}
use Rattle.rules.specs.Sheet.{between}
use Rattle.rules.specs.Tree.{least, greatest, height, better, best, split_of, row_at, measured, rows_of}
use Rattle.rules.specs.Plain.{within, share, on_segment, crosses, joined, plain_near}
use Rattle.rules.specs.Plain.{plain_inside, plain_agree}
use Rattle.rules.specs.declared.Word.TheVariants.{YES, NO, INSIDE, OUTSIDE, ON, UNDECIDED}
use Rattle.rules.specs.declared.Reply.{Reply}
use Rattle.rules.specs.Reply.{says, disagrees, refuses}
use Rattle.rules.specs.Walk.{walk}
use Rattle.rules.specs.Rows.{good}
use Rattle.rules.specs.Questions.{shortfall, far_from, near_visit, near_reply, beyond_corners, apart, meet_visit}
use Rattle.rules.specs.Questions.{meet_reply, clear_of, in_visit, in_reply, ask_all, agree_walk, agree_reply}
use Rattle.rules.specs.Build.{lowest, build_refusal, table_of, built_table, holds_point, row_holds}
use Rattle.rules.specs.Old.{old_refusal, old_table, widened, widen_refusal}
use Rattle.rules.specs.Check.{row_fault, fault_from, table_fault, check_refusal}

abbrev at : ℕ → ℕ → Point
at x y = record { x = pos x; y = pos y }

-- L is (0,0) (4,3) (8,0)
abbrev L : List ℤ
L = pos 0 ∷ pos 0 ∷ pos 4 ∷ pos 3 ∷ pos 8 ∷ pos 0 ∷ []

-- S is the square (0,0) (4,0) (4,4) (0,4) (0,0)
abbrev S : List ℤ
S = pos 0 ∷ pos 0 ∷ pos 4 ∷ pos 0 ∷ pos 4 ∷ pos 4 ∷ pos 0 ∷ pos 4 ∷ pos 0 ∷ pos 0 ∷ []

-- (4,0) (4,2), and (4,0) (4,3)
abbrev M : List ℤ
M = pos 4 ∷ pos 0 ∷ pos 4 ∷ pos 2 ∷ []

abbrev N : List ℤ
N = pos 4 ∷ pos 0 ∷ pos 4 ∷ pos 3 ∷ []

abbrev near : Point → ℕ → ℕ → Reply
near z D allowance = near_reply L (table_of L) z (pos D) allowance

abbrev meet : List ℤ → Reply
meet B = meet_reply L (table_of L) B (table_of B) 99

abbrev ring : Point → Reply
ring z = in_reply S (table_of S) z 99

pub P1-to-P12 :
    (table_of L
    ≡ pos 0 ∷ pos 2 ∷ pos 1 ∷ pos 0 ∷ pos 24 ∷ pos 0 ∷ pos 64 ∷ pos 0 ∷ pos 8 ∷ pos 0 ∷ pos 3
    ∷ pos 0 ∷ pos 1 ∷ negsuc 0 ∷ pos 0 ∷ pos 0 ∷ pos 0 ∷ pos 25 ∷ pos 0 ∷ pos 4 ∷ pos 0 ∷ pos 3
    ∷ pos 1 ∷ pos 2 ∷ negsuc 0 ∷ pos 0 ∷ pos 0 ∷ pos 0 ∷ pos 25 ∷ pos 4 ∷ pos 8 ∷ pos 0 ∷ pos 3 ∷ [])  -- P1
    × (near (at 4 5) 2 99 ≡ says YES 2)  -- P2
    × (near (at 4 5) 1 99 ≡ says NO 1)  -- P3
    × (near (at 4 5) 2 1 ≡ says UNDECIDED 1)  -- P4
    × (near (at 4 5) 2 0 ≡ says UNDECIDED 0)  -- P4, likewise
    × (near (at 4 0) 2 99 ≡ says NO 3)  -- P5
    × (near (at 4 0) 3 99 ≡ says YES 2)  -- P6
    × (meet M ≡ says NO 3)  -- P7
    × (meet N ≡ says YES 2)  -- P8
    × (ring (at 2 2) ≡ says INSIDE 7)  -- P9
    × (ring (at 4 2) ≡ says ON 4)  -- P10
    × (ring (at 5 2) ≡ says OUTSIDE 1)  -- P11
    × (ring (at 3 1) ≡ says INSIDE 5)  -- P12
unfolding table_of rows_of measured split_of best better height least greatest row_at direction between within share
    on_segment crosses walk good shortfall far_from near_visit near_reply beyond_corners apart meet_visit meet_reply clear_of
    in_visit in_reply
P1-to-P12 = (refl, refl, refl, refl, refl, refl, refl, refl, refl, refl, refl, refl, refl)

-- ---- slips that look right, and that P1 to P12 do not reach
-- a ray through a corner where the ring passes from below to above is counted once: from the middle of a diamond
abbrev R : List ℤ
R = pos 4 ∷ pos 0 ∷ pos 8 ∷ pos 4 ∷ pos 4 ∷ pos 8 ∷ pos 0 ∷ pos 4 ∷ pos 4 ∷ pos 0 ∷ []

pub corner-counts-once : (plain_inside R (at 4 4) ≡ true) × ((in_reply R (table_of R) (at 4 4) 99).word ≡ INSIDE)
unfolding table_of rows_of measured split_of best better height least greatest row_at direction between on_segment crosses
    joined walk good clear_of in_visit in_reply plain_inside
corner-counts-once = (refl, refl)

-- agreement is asked both ways: a stub does not agree with a long line, though each of its points is on it
abbrev stub : List ℤ
stub = pos 0 ∷ pos 0 ∷ pos 1 ∷ pos 0 ∷ []

abbrev long : List ℤ
long = pos 0 ∷ pos 0 ∷ pos 9 ∷ pos 0 ∷ []

pub stub-disagrees :
    (plain_agree stub long (pos 2) ≡ false)
    × (agree_reply stub (table_of stub) long (table_of long) (pos 2) 99 ≡ disagrees LineB 1 4)
    × (plain_agree long stub (pos 2) ≡ false)
unfolding table_of rows_of measured split_of best better height least greatest row_at direction between within joined
    walk good shortfall far_from near_visit ask_all agree_walk agree_reply plain_near plain_agree
stub-disagrees = (refl, refl, refl)

-- c is compared as it is: 4^2 > 1^2 * 10, though 16 / 10 is 1
pub c-is-not-divided : within (at 2 2) (at 0 0) (at 3 1) (pos 1) ≡ false
unfolding within
c-is-not-divided = refl

-- of two points as far from the chord, the one nearer to the middle splits; of two as near to it, the lower
abbrev plateau : List ℤ
plateau = pos 0 ∷ pos 0 ∷ pos 1 ∷ pos 2 ∷ pos 2 ∷ pos 2 ∷ pos 3 ∷ pos 2 ∷ pos 4 ∷ pos 2 ∷ pos 5 ∷ pos 0 ∷ []

pub ties-go-to-the-middle-then-low : split_of plateau 0 5 ≡ 2
unfolding split_of best better height direction
ties-go-to-the-middle-then-low = refl

-- where first and last point are equal, u = (1, 0): of a ring that is wider than high, c is y - 1 and t is x - 1
abbrev T : List ℤ
T = pos 1 ∷ pos 1 ∷ pos 6 ∷ pos 3 ∷ pos 3 ∷ pos 4 ∷ pos 1 ∷ pos 1 ∷ []

pub closed-run-heads-along-x :
    (table_of T
    ≡ pos 0 ∷ pos 3 ∷ pos 2 ∷ pos 0 ∷ pos 3 ∷ pos 0 ∷ pos 5 ∷ pos 1 ∷ pos 6 ∷ pos 1 ∷ pos 4
    ∷ pos 0 ∷ pos 2 ∷ pos 1 ∷ negsuc 10 ∷ pos 0 ∷ pos 0 ∷ pos 16 ∷ pos 1 ∷ pos 6 ∷ pos 1 ∷ pos 4
    ∷ pos 0 ∷ pos 1 ∷ negsuc 0 ∷ pos 0 ∷ pos 0 ∷ pos 0 ∷ pos 29 ∷ pos 1 ∷ pos 6 ∷ pos 1 ∷ pos 3
    ∷ pos 1 ∷ pos 2 ∷ negsuc 0 ∷ pos 0 ∷ pos 0 ∷ pos 0 ∷ pos 10 ∷ pos 3 ∷ pos 6 ∷ pos 3 ∷ pos 4
    ∷ pos 2 ∷ pos 3 ∷ negsuc 0 ∷ pos 0 ∷ pos 0 ∷ pos 0 ∷ pos 13 ∷ pos 1 ∷ pos 3 ∷ pos 1 ∷ pos 4 ∷ [])
    × (in_reply T (table_of T) (at 5 2) 99 ≡ says OUTSIDE 5)
unfolding table_of rows_of measured split_of best better height least greatest row_at direction between on_segment crosses
    walk good clear_of in_visit in_reply
closed-run-heads-along-x = (refl, refl)

-- building writes the rows of the line and leaves what stands past them; refused, for a table one number short, it
-- writes nothing
abbrev ten : List ℤ
ten = pos 7 ∷ pos 7 ∷ pos 7 ∷ pos 7 ∷ pos 7 ∷ pos 7 ∷ pos 7 ∷ pos 7 ∷ pos 7 ∷ pos 7 ∷ []

pub builds-all-or-nothing :
    (built_table N (pos 7 ∷ pos 7 ∷ ten)
    ≡ pos 0 ∷ pos 1 ∷ negsuc 0 ∷ pos 0 ∷ pos 0 ∷ pos 0 ∷ pos 9 ∷ pos 4 ∷ pos 4 ∷ pos 0 ∷ pos 3 ∷ pos 7 ∷ [])
    × (built_table N ten ≡ ten)
unfolding built_table build_refusal lowest table_of rows_of measured split_of best better height least greatest direction
    between
builds-all-or-nothing = (refl, refl)

-- ---- the sheet of 125 km: its diagonal, asked from another corner; and the limits
abbrev diagonal : List ℤ
diagonal = negsuc 999999 ∷ negsuc 999999 ∷ pos 1000000 ∷ pos 1000000 ∷ []

abbrev across : ℤ → Reply
across D = near_reply diagonal (table_of diagonal) (record { x = pos 1000000; y = negsuc 999999 }) D 99

abbrev east_to : ℕ → List ℤ
east_to x = pos 0 ∷ pos 0 ∷ pos x ∷ pos 0 ∷ []

abbrev refused_as : ℕ → Reply
refused_as number = refuses (record { number = number; line = NoLine; place = 0; visits = 0 })

pub at-the-limits :
    (table_of diagonal
    ≡ pos 0 ∷ pos 1 ∷ negsuc 0 ∷ pos 0 ∷ pos 0 ∷ pos 0 ∷ pos 8000000000000 ∷ negsuc 999999 ∷ pos 1000000
    ∷ negsuc 999999 ∷ pos 1000000 ∷ [])
    × (across (pos 1414213) ≡ says NO 1)
    × (across (pos 1414214) ≡ says YES 1)
    × (across (pos 2000000) ≡ says YES 1)
    × (across (pos 2000001) ≡ refused_as 7)
    × (across (negsuc 0) ≡ refused_as 7)
    × (near_reply diagonal (table_of diagonal) (at 1000001 0) (pos 0) 99 ≡ refused_as 8)
    × (build_refusal (east_to 1000000) (pos 7 ∷ ten) ≡ none)
    × (build_refusal (east_to 1000001) (pos 7 ∷ ten) ≡ some (record { number = 4; line = LineA; place = 1; visits = 0 }))
unfolding table_of rows_of measured split_of best better height least greatest row_at direction between within walk good
    shortfall far_from near_visit near_reply build_refusal lowest
at-the-limits = (refl, refl, refl, refl, refl, refl, refl, refl, refl)

-- a table of 64-bit numbers that no builder writes: L's, its root's cmin at -2^63
abbrev unbounded : List ℤ
unbounded = set (table_of L) 3 (negsuc 9223372036854775807)

pub any-number-in-a-row : near_reply L unbounded (record { x = pos 4; y = negsuc 8 }) (pos 1) 99 ≡ says NO 3
unfolding table_of rows_of measured split_of best better height least greatest row_at direction between within walk good
    shortfall far_from near_visit near_reply
any-number-in-a-row = refl

-- L's table, widened into 35 numbers that are all 5, and into 32
pub widens-all-or-nothing :
    (widened (table_of L) (replicate 35 (pos 5)) ≡ table_of L ++ pos 5 ∷ pos 5 ∷ [])
    × (widened (table_of L) (replicate 32 (pos 5)) ≡ replicate 32 (pos 5))
    × (widen_refusal (table_of L) (replicate 32 (pos 5))
    ≡ some (record { number = 6; line = NoLine; place = 0; visits = 0 }))
unfolding table_of rows_of measured split_of best better height least greatest direction widened widen_refusal
widens-all-or-nothing = (refl, refl, refl)

-- the old sheet: what its builds took and refused, and a table that one wrote
pub the-old-sheet :
    (old_refusal (east_to 16383) (pos 7 ∷ ten) ≡ none)
    × (old_table (east_to 16383) (pos 7 ∷ pos 7 ∷ ten)
    ≡ pos 0 ∷ pos 1 ∷ negsuc 0 ∷ pos 0 ∷ pos 0 ∷ pos 0 ∷ pos 268402689 ∷ pos 0 ∷ pos 16383 ∷ pos 0 ∷ pos 0 ∷ pos 7 ∷ [])
    × (old_refusal (east_to 16384) (pos 7 ∷ ten) ≡ some (record { number = 4; line = LineA; place = 1; visits = 0 }))
    × (old_table (east_to 16384) (pos 7 ∷ ten) ≡ pos 7 ∷ ten)
unfolding old_refusal old_table lowest table_of rows_of measured split_of best better height least greatest direction between
the-old-sheet = (refl, refl, refl, refl)

-- ---- the checker: a number of L's table changed, by row and column
abbrev changed : ℕ → ℕ → ℤ → List ℤ → List ℤ
changed row column v t = set t (11 * row + column) v

abbrev found_in : List ℤ → Option Refusal
found_in t = check_refusal L t

abbrev at_row : ℕ → ℕ → Option Refusal
at_row number place = some (record { number = number; line = LineA; place = place; visits = 0 })

pub the-checker :
    (found_in (table_of L) ≡ none)  -- as built
    × (found_in (changed 0 4 (pos 25) (table_of L)) ≡ none)  -- a looser strip
    × (found_in (changed 0 8 (pos 1000000) (table_of L)) ≡ none)  -- a box to the sheet's edge
    × (found_in (changed 0 3 (negsuc 2147483647) (changed 0 4 (pos 2147483647) (table_of L))) ≡ none)
    × (found_in (table_of L ++ pos 5 ∷ []) ≡ none)  -- numbers past the rows
    × (found_in (changed 0 4 (pos 23) (table_of L)) ≡ at_row 22 0)  -- the strip, and the box, leave a point out
    × (found_in (changed 0 9 (pos 1) (table_of L)) ≡ at_row 22 0)
    × (found_in (changed 0 3 (pos 1) (table_of L)) ≡ at_row 21 0)  -- not good, though points are left out, too
    × (found_in (changed 0 4 (negsuc 0) (table_of L)) ≡ at_row 21 0)
    × (found_in (changed 0 9 (pos 4) (table_of L)) ≡ at_row 21 0)
    × (found_in (changed 0 8 (pos 1000001) (table_of L)) ≡ at_row 21 0)
    × (found_in (changed 1 2 (pos 0) (table_of L)) ≡ at_row 21 1)
    × (found_in (changed 2 0 (pos 0) (table_of L)) ≡ at_row 21 2)
    × (found_in (changed 0 4 (pos 23) (changed 1 2 (pos 0) (table_of L))) ≡ at_row 22 0)  -- the lowest row decides
    × (found_in (changed 0 2 (pos 2) (changed 0 4 (pos 23) (table_of L))) ≡ at_row 21 0)
    × (found_in (changed 1 6 (pos 24) (changed 2 0 (pos 0) (table_of L))) ≡ at_row 22 1)
    × (found_in (changed 2 8 (pos 7) (table_of L)) ≡ at_row 22 2)
    × (found_in (take 32 (table_of L)) ≡ at_row 6 0)  -- 1 to 6 come first
    × (check_refusal (pos 0 ∷ pos 0 ∷ pos 4 ∷ pos 3 ∷ pos 4 ∷ pos 3 ∷ []) [] ≡ at_row 5 1)
unfolding table_of rows_of measured split_of best better height least greatest row_at direction between joined good
    build_refusal lowest holds_point row_holds row_fault fault_from table_fault check_refusal
the-checker =
    (refl, refl, refl, refl, refl, refl, refl, refl, refl, refl, refl, refl, refl, refl, refl, refl, refl, refl, refl)

-- a table of S by other splits: at 1, then 2, then 3
abbrev foreign : List ℤ
foreign =
    pos 0 ∷ pos 4 ∷ pos 1 ∷ pos 0 ∷ pos 4 ∷ pos 0 ∷ pos 4 ∷ pos 0 ∷ pos 4 ∷ pos 0 ∷ pos 4
    ∷ pos 0 ∷ pos 1 ∷ negsuc 0 ∷ pos 0 ∷ pos 0 ∷ pos 0 ∷ pos 16 ∷ pos 0 ∷ pos 4 ∷ pos 0 ∷ pos 0
    ∷ pos 1 ∷ pos 4 ∷ pos 2 ∷ negsuc 15 ∷ pos 0 ∷ pos 0 ∷ pos 16 ∷ pos 0 ∷ pos 4 ∷ pos 0 ∷ pos 4
    ∷ pos 1 ∷ pos 2 ∷ negsuc 0 ∷ pos 0 ∷ pos 0 ∷ pos 0 ∷ pos 16 ∷ pos 4 ∷ pos 4 ∷ pos 0 ∷ pos 4
    ∷ pos 2 ∷ pos 4 ∷ pos 3 ∷ negsuc 15 ∷ pos 0 ∷ pos 0 ∷ pos 32 ∷ pos 0 ∷ pos 4 ∷ pos 0 ∷ pos 4
    ∷ pos 2 ∷ pos 3 ∷ negsuc 0 ∷ pos 0 ∷ pos 0 ∷ pos 0 ∷ pos 16 ∷ pos 0 ∷ pos 4 ∷ pos 4 ∷ pos 4
    ∷ pos 3 ∷ pos 4 ∷ negsuc 0 ∷ pos 0 ∷ pos 0 ∷ pos 0 ∷ pos 16 ∷ pos 0 ∷ pos 0 ∷ pos 0 ∷ pos 4 ∷ []

pub other-splits-are-accepted :
    (check_refusal S foreign ≡ none)
    × ((row_at foreign 0).split ≡ pos 1)
    × ((row_at (table_of S) 0).split ≡ pos 2)
    × (near_reply S foreign (at 2 2) (pos 2) 99 ≡ says YES 2)
    × (near_reply S (table_of S) (at 2 2) (pos 2) 99 ≡ says YES 3)
    × (near_reply S foreign (at 2 2) (pos 1) 99 ≡ says NO 7)
    × (in_reply S foreign (at 2 2) 99 ≡ says INSIDE 7)
    × (in_reply S foreign (at 4 2) 99 ≡ says ON 4)
    × (check_refusal S (changed 2 3 (negsuc 14) foreign) ≡ at_row 22 2)
    × (check_refusal S (changed 0 2 (pos 2) foreign) ≡ at_row 21 1)
unfolding table_of rows_of measured split_of best better height least greatest row_at direction between joined good
    build_refusal lowest holds_point row_holds row_fault fault_from table_fault check_refusal within walk shortfall far_from
    near_visit near_reply on_segment crosses clear_of in_visit in_reply
other-splits-are-accepted = (refl, refl, refl, refl, refl, refl, refl, refl, refl, refl)
