-- docs/RULES.md, section 2.9: the checker of tables from other software, row by row in table order.
use Rattle.std.specs.Prelude.{cond, List, ℕ, zero, suc, ℤ}
use Rattle.std.proofs.Math.Option.{Option, none, some}
use Rattle.rules.specs.declared.Line.TheVariants.{LineA}
use Rattle.rules.specs.declared.Node.{Node}
use Rattle.rules.specs.declared.Refusal.{Refusal}
use Rattle.rules.specs.declared.Row.{Row}
use Rattle.rules.specs.Sheet.{segments_of}
use Rattle.rules.specs.Tree.{row_at}
use Rattle.rules.specs.Reply.{or_else}
use Rattle.rules.specs.Rows.{good}
use Rattle.rules.specs.Questions.{root, leaf, left_of, right_of, split_in}
use Rattle.rules.specs.Build.{row_holds, build_refusal}

-- how the row of a node is read
abbrev pub Reader : Type 0
Reader = Node → Row

abbrev pub read_from : List ℤ → Reader
read_from t n = row_at t n.row

-- a row at fault
abbrev pub fault : ℕ → Node → Option Refusal
fault number n = some (record { number = number; line = LineA; place = n.row; visits = 0 })

-- 21 the row isn't good for the range handed down; 22 its strip or box leaves a point of the run out
unfoldable pub row_fault : List ℤ → Row → Node → Option Refusal
row_fault ps r n =
    cond (good ps r n.first n.last) (cond (row_holds ps r n.first n.last) none (fault 22 n)) (fault 21 n)

-- the row of a node, then its left half, then its right half, with at most this many levels
unfoldable pub fault_from : Reader → ℕ → List ℤ → Node → Option Refusal
fault_from read zero ps n = none
fault_from read (suc levels) ps n =
    let s = split_in (read n) in
    let halves = or_else (fault_from read levels ps (left_of n s)) (fault_from read levels ps (right_of n s)) in
    or_else (row_fault ps (read n) n) (cond (leaf n) none halves)

unfoldable pub table_fault : List ℤ → List ℤ → Option Refusal
table_fault ps t = fault_from (read_from t) (segments_of ps) ps (root ps)

-- 1 to 6 as a build, then 21 and 22; none: the table is accepted
unfoldable pub check_refusal : List ℤ → List ℤ → Option Refusal
check_refusal ps t = or_else (build_refusal ps t) (table_fault ps t)
