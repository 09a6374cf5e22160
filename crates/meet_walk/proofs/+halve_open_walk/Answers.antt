-- `walk` makes the visit of one level of the written walk; where it halves a node, `open` takes it by `halve`, which
-- goes on in the halves.
use mathlib.Core.Path.{refl, sym, ◌∙◌}
use mathlib.Core.Bool.{false}
use native.Mathlib.Omega.{arith}
use Rattle.row.proofs.Places.{row_small}
use Rattle.ending.proofs.OneLevel.{none_left, yes-here, over-here}
use Rattle.meet_visit.specs.Steps.{opened}
use Rattle.meet_visit.proofs.GoodRows.{read_of, tells-node, has_split}
use Rattle.meet_walk.proofs.Halves.{level_of, seen, opens, falls-by, taken, falls-to, walked_to}
use Rattle.meet_walk.proofs.Halves.{left-over, left-stopped, right-comes}
use Rattle.meet_walk.proofs.Halves.{left-fewer, right-fewer, left-stands-at, right-stands-at, left-starts, right-ends}
use Rattle.meet_walk.proofs.Halves.{left-handed, right-handed, left-bad, right-bad}
use Rattle.meet_walk.proofs.+halve_open_walk.Goals as goal

-- ---------------- `halve`
pub halve-left_good-requires-clause-t : goal.halve-left_good-requires-clause-t
halve-left_good-requires-clause-t t c = left-starts c.requires (taken c.tree_on-tree.ensures c.node_on-node.ensures)

pub halve-bad_row_on-requires : goal.halve-bad_row_on-requires
halve-bad_row_on-requires t c =
    row_small (left-stands-at c.requires (taken c.tree_on-tree.ensures c.node_on-node.ensures))

pub halve-returns-then-not-left_good : goal.halve-returns-then-not-left_good
halve-returns-then-not-left_good t c =
    left-bad c.requires (taken c.tree_on-tree.ensures c.node_on-node.ensures) c.left_good.ensures
    c.if-not-left_good.true c.bad_row_on.ensures

pub halve-walk-ending-requires : goal.halve-walk-ending-requires
halve-walk-ending-requires t c =
    let h = left-handed c.requires (taken c.tree_on-tree.ensures c.node_on-node.ensures) c.left_good.ensures
    c.if-not-left_good.false c.rows_with.ensures in falls-to h (left-fewer c.requires) c.decreases

pub halve-returns-then-stopped : goal.halve-returns-then-stopped
halve-returns-then-stopped t c =
    let h = left-handed c.requires (taken c.tree_on-tree.ensures c.node_on-node.ensures) c.left_good.ensures
    c.if-not-left_good.false c.rows_with.ensures in
    left-stopped c.requires {counted = c.args.counted} c.walk-ending.result (walked_to h _ _ c.walk-ending.ensures)
    c.stopped.ensures c.if-stopped.true

pub halve-overflow_add-right : goal.halve-overflow_add-right
halve-overflow_add-right t c =
    let small = row_small (right-stands-at c.requires (taken c.tree_on-tree.ensures c.node_on-node.ensures)) in
    omega arith

pub halve-right_good-requires-clause-stands : goal.halve-right_good-requires-clause-stands
halve-right_good-requires-clause-stands t c =
    right-stands-at c.requires (taken c.tree_on-tree.ensures c.node_on-node.ensures)

pub halve-right_good-requires-clause-ends_on : goal.halve-right_good-requires-clause-ends_on
halve-right_good-requires-clause-ends_on t c =
    right-ends c.requires (taken c.tree_on-tree.ensures c.node_on-node.ensures) c.left_good.ensures
    c.if-not-left_good.false

pub halve-bad_row_on-requires-then-not-right_good : goal.halve-bad_row_on-requires-then-not-right_good
halve-bad_row_on-requires-then-not-right_good t c =
    row_small (right-stands-at c.requires (taken c.tree_on-tree.ensures c.node_on-node.ensures))

pub halve-returns-then-not-right_good : goal.halve-returns-then-not-right_good
halve-returns-then-not-right_good t c =
    let x = taken c.tree_on-tree.ensures c.node_on-node.ensures in
    let h = left-handed c.requires x c.left_good.ensures c.if-not-left_good.false c.rows_with.ensures in
    let w = left-over c.requires c.walk-ending.result (walked_to h _ _ c.walk-ending.ensures) c.stopped.ensures
    c.if-stopped.false c.tally_in-next.ensures in
    right-bad c.requires x w c.right_good.ensures c.if-not-right_good.true c.bad_row_on-then-not-right_good.ensures

pub halve-walk-requires : goal.halve-walk-requires
halve-walk-requires t c =
    let h = right-handed c.requires (taken c.tree_on-tree.ensures c.node_on-node.ensures) c.right_good.ensures
    c.if-not-right_good.false c.rows_with-2.ensures in falls-to h (right-fewer c.requires) c.decreases

pub halve-returns : goal.halve-returns
halve-returns t c =
    let x = taken c.tree_on-tree.ensures c.node_on-node.ensures in
    let h = left-handed c.requires x c.left_good.ensures c.if-not-left_good.false c.rows_with.ensures in
    let g = right-handed c.requires x c.right_good.ensures c.if-not-right_good.false c.rows_with-2.ensures in
    let w = left-over c.requires c.walk-ending.result (walked_to h _ _ c.walk-ending.ensures) c.stopped.ensures
    c.if-stopped.false c.tally_in-next.ensures in right-comes c.requires w c.walk.result (walked_to g _ _ c.walk.ensures)

-- ---------------- `open`: the pair is told by its rows, and they are read
pub open-pair_at-pair-requires : goal.open-pair_at-pair-requires
open-pair_at-pair-requires t c =
    let p = c.requires.pair-stands in (tells-node p.of-a, tells-node p.of-b)

pub open-open_larger-requires-clause-has_split : goal.open-open_larger-requires-clause-has_split
open-open_larger-requires-clause-has_split t c =
    let p = c.requires.pair-stands in
    rw c.pair_at-pair.ensures
    (has_split (read_of p.of-a c.row_at-row_a.ensures), has_split (read_of p.of-b c.row_at-row_b.ensures))

pub open-halve-requires : goal.open-halve-requires
open-halve-requires t c =
    let pair-is = c.pair_at-pair.ensures in
    let step-is = sym c.in-HalveA.is
    ∙ c.open_larger.ensures
    ∙ (λ i. opened (c.row_at-row_a.ensures i) (c.row_at-row_b.ensures i) (pair-is i)) in
    let h = opens c.requires pair-is step-is in
    (falls-by pair-is c.decreases, record { pair-stands = h.0; inner = h.1.1; visit = h.1.0 })

pub open-halve-requires-in-HalveB : goal.open-halve-requires-in-HalveB
open-halve-requires-in-HalveB t c =
    let pair-is = c.pair_at-pair.ensures in
    let step-is = sym c.in-HalveB.is
    ∙ c.open_larger.ensures
    ∙ (λ i. opened (c.row_at-row_a.ensures i) (c.row_at-row_b.ensures i) (pair-is i)) in
    let h = opens c.requires pair-is step-is in
    (falls-by pair-is c.decreases, record { pair-stands = h.0; inner = h.1.1; visit = h.1.0 })

-- ---------------- `walk`: a visit is made, and does what a visit of the pair does
pub walk-returns-in_default : goal.walk-returns-in_default
walk-returns-in_default t c f h =
    none_left (level_of c.requires c.args.tally f h) (sym c.visit.ensures ∙ c.in_default.is) c.pack.ensures

pub walk-returns-in-Finishes : goal.walk-returns-in-Finishes
walk-returns-in-Finishes t c f h =
    yes-here (level_of c.requires c.args.tally f h) (sym c.visit.ensures ∙ c.in-Some.is)
    c.pack-in-Finishes.ensures ((seen c.requires c.visit-2.ensures).finishes c.in-Finishes.is)

pub walk-returns-in-Passes : goal.walk-returns-in-Passes
walk-returns-in-Passes t c f h =
    over-here (level_of c.requires c.args.tally f h) (sym c.visit.ensures ∙ c.in-Some.is) false
    c.pack-in-Passes.ensures refl ((seen c.requires c.visit-2.ensures).passes c.in-Passes.is)
