-- `feed_byte` goes by the byte: any but a line feed is kept.
use mathlib.Core.Path.{refl}
use native.Mathlib.Omega.{arith}
use borrow.Author.Rules.{rules}
use Rattle.records.specs.Holds.{slices_of}
use Rattle.byte.proofs.Byte.{byte-kept}
use Rattle.byte.proofs.feed_byte.Goals as goal

pub returns : goal.returns
returns c =
    let desk = c.args.desk.now in
    let k = c.keep_byte.ensures in
    byte-kept (slices_of desk) desk.bounds c.args.out.now c.args.wrote (search rules) (λ e. omega arith)
    (record { state = refl; left = k.left; bytes = k.bytes; kept = k.kept })
