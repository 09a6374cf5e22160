-- `check_row`: 21 where the row is not good, 22 where it is and does not hold its run.
use Rattle.std.proofs.Common.{arith, sym, ◌∙◌}
use Rattle.integers.specs.Order.{T_true}
use Rattle.rules.specs.Check.{row_fault}
use Rattle.visits.proofs.Nodes.{good-read}
use Rattle.checker.proofs.Level.{nothing-found}
use Rattle.checker.proofs.check_row.Goals as goal

pub returns-then-not-good_between : goal.returns-then-not-good_between
unfolding row_fault
returns-then-not-good_between c = grind arith

pub returns-then-not-holds_run : goal.returns-then-not-holds_run
unfolding row_fault
returns-then-not-holds_run c = grind arith

pub returns : goal.returns
unfolding row_fault
returns c = grind (arith, nothing-found)

pub holds_run-requires : goal.holds_run-requires
holds_run-requires c =
    let a = c.args in
    let h = c.requires.0 in
    let row_is_good = T_true (sym c.good_between.ensures ∙ c.if-not-good_between.false) in (
      h.fits.some-segment,
      h.points-in,
      c.requires.1,
      (good-read a.points.now.now c.row_at-r.result a.first a.last row_is_good).strip,
    )
