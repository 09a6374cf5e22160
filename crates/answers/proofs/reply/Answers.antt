-- `reply`: where the tables stand, the record is asked of what is stored.
use Rattle.std.proofs.Common.{sym}
use Rattle.ready.proofs.Goes.{has-rows, needed-are}
use Rattle.answers.specs.Asked.{needed_by}
use Rattle.answers.proofs.reply.Goals as goal

pub ask-reply-requires : goal.ask-reply-requires
ask-reply-requires c =
    let readies = needed-are (sym c.needed_by.ensures) c.ready_for-readied.ensures in
    rw (c.points.ensures, c.points-in-Ok.ensures) (has-rows (needed_by c.args.«record») readies c.in-Ok.is)
