-- `put_row`: what is measured of the part is the row and the split of the node.
use Rattle.std.proofs.Common.{rules, arith, ◌≡◌, ◌∙◌, ap, ℕ, ◌+◌, ◌*◌, ◌<◌, ◌≤◌, List, length}
use lib.IntN.{ℤ}
use Rattle.rules.specs.Tree.{numbers, split_of}
use Rattle.run.specs.declared.Measured.{Measured}
use Rattle.run.specs.Run.{measure_of}
use Rattle.build.specs.Rows.{split_number, node_row}
use Rattle.build.proofs.Numbers.{AllFit, stored-written}
use Rattle.build.proofs.Node.{run_of, row_of, run-segments, run_on, run_row, run-split, split-up-to}
use Rattle.build.proofs.rows.put_row.Goals as goal

pub measure-m-requires : goal.measure-m-requires
measure-m-requires c =
    let a = c.args in
    let p = c.requires in
    let n = run-segments a.points.now a.first a.last p.0 p.2 in
    (run_on a.points.now a.first a.last p.0 p.2 p.3, omega arith, omega arith)

-- the split that is found is the node's
found : (ps : List ℤ) (first last : ℕ) → first < last → 2 * last + 2 ≤ length ps → {m : Measured}
    → m ≡ measure_of (run_of ps first last) → first + m.top.split ≡ split_of ps first last
found ps first last order room e = ap (λ (m : Measured). first + m.top.split) e ∙ run-split ps first last order room

pub overflow_add-split : goal.overflow_add-split
overflow_add-split c =
    let a = c.args in
    let f = found a.points.now a.first a.last c.requires.0 c.requires.2 c.measure-m.ensures in
    omega (arith, f, split-up-to a.points.now a.first a.last c.requires.0, c.requires.1)

pub split_number-requires : goal.split_number-requires
split_number-requires c =
    let a = c.args in
    let f = found a.points.now a.first a.last c.requires.0 c.requires.2 c.measure-m.ensures in
    (omega arith, omega (arith, f, split-up-to a.points.now a.first a.last c.requires.0, c.requires.1))

pub returns-clause-value : goal.returns-clause-value
returns-clause-value c =
    let a = c.args in found a.points.now a.first a.last c.requires.0 c.requires.2 c.measure-m.ensures

pub returns-clause-table_after : goal.returns-clause-table_after
returns-clause-table_after c =
    let a = c.args in
    let p = c.requires in
    let row = row_of a.first a.last c.split_number.result c.measure-m.result in
    let f = found a.points.now a.first a.last p.0 p.2 c.measure-m.ensures in
    let number = c.split_number.ensures ∙ ap (split_number a.first a.last) f in
    let written : row ≡ node_row a.points.now a.first a.last =
    (λ d. row_of a.first a.last (number d) (c.measure-m.ensures d))
    ∙ run_row a.points.now a.first a.last p.0 p.2 (split_number a.first a.last _) in
    let fit : AllFit (numbers row) = search rules in
    stored-written (numbers row) _ fit (ap numbers written) c.put_numbers.ensures
