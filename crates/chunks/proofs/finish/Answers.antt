-- `finish`: where bytes are pending, a line feed ends the last text line.
use native.Mathlib.Omega.{arith}
use borrow.Author.Rules.{rules}
use Rattle.records.specs.Holds.{slices_of}
use Rattle.chunks.proofs.Last.{last-ends}
use Rattle.chunks.proofs.finish.Goals as goal

pub returns : goal.returns
returns c =
    let desk = c.args.desk.now in
    let both = last-ends desk.state (slices_of desk) c.args.out.now (slices_of c.end_text.new.desk) (search rules)
    desk.bounds (λ e. omega arith) c.end_text.ensures in
    record { finishes = both.0; leaves = both.1 }
