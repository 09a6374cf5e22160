-- `end_text`: the pending bytes are a text line, and its outcome is printed.
use Rattle.std.proofs.Common.{refl}
use Rattle.records.specs.Holds.{slices_of}
use Rattle.byte.proofs.Byte.{byte-ends}
use Rattle.byte.proofs.end_text.Goals as goal

pub returns : goal.returns
returns c =
    let desk = c.args.desk.now in
    let took = c.take_text-said in
    byte-ends (slices_of desk) desk.bounds c.args.out.now c.args.wrote (slices_of took.new.self) refl took.ensures.takes
    took.ensures.text_same c.print.ensures
