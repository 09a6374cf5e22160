-- `found`: the row and the number are the quotient and the rest.
use Rattle.std.proofs.Common.{arith, ◌≡◌, ◌+◌, ◌*◌, ◌/◌, ◌%◌}
use borrow.Author.Tests.{ne_eqb}
use Rattle.checker.specs.Found.{past, found_fault}
use Rattle.checker.proofs.found.Goals as goal

pub returns : goal.returns
unfolding found_fault
returns c =
    let k = past * c.args.row + c.args.number in
    let above = ne_eqb k 0 (omega arith) in
    let number : k % past ≡ c.args.number = omega arith in
    let row : k / past ≡ c.args.row = omega arith in simp (above, number, row)
