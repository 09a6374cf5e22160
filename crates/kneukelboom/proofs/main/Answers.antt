-- `main`: bytes that came are held past them, and there are more of them than before.
use Rattle.std.proofs.Common.{sym, arith}
use lib.Seq.{length-take-le}
use Rattle.records.specs.Holds.{slices_of}
use Rattle.reading.proofs.After.{after_none}
use Rattle.reading.proofs.Answers.{within, goes_on}
use Rattle.kneukelboom.proofs.main.Goals as goal

pub loop-so_far-init : goal.loop-so_far-init
loop-so_far-init c =
    let desk = c.opened-desk.result in
    let opened = c.opened-desk.ensures in
    after_none opened.slices (opened.l_value (slices_of desk)) desk.bounds opened.result_value

pub slice_bounds-out-end : goal.slice_bounds-out-end
slice_bounds-out-end c = within _ c.pass-past.ensures

pub slice_bounds-write_all-end : goal.slice_bounds-write_all-end
slice_bounds-write_all-end c = sym (length-take-le _ _ (within _ c.pass-past.ensures))

pub loop-so_far-smaller : goal.loop-so_far-smaller
loop-so_far-smaller c =
    let more = (goes_on _ c.pass-past.ensures c.in-More.is c.loop-so_far.invariant (omega arith)).1 in
    let most = c.loop-so_far-test.true in omega arith

pub loop-so_far-preserved : goal.loop-so_far-preserved
loop-so_far-preserved c = (goes_on _ c.pass-past.ensures c.in-More.is c.loop-so_far.invariant (omega arith)).0
