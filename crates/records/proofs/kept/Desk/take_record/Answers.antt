-- `take_record`: what is neither LINE nor PT is answered.
use Rattle.std.proofs.Common.{refl}
use Rattle.records.specs.Holds.{numbers_of}
use Rattle.records.proofs.Desks.{Ready, reply-takes}
use Rattle.records.proofs.Stay.{record-stays}
use Rattle.records.proofs.kept.Desk.take_record.Goals as goal

pub returns-in_default : goal.returns-in_default
returns-in_default c =
    let desk = c.args.self.now in
    let ready : Ready desk.state = record { bounds = desk.bounds; next = c.requires } in
    let q = c.in_default in
    record {
      takes = reply-takes (numbers_of desk) c.args.«record» ready q.not-Start q.not-Pt c.reply-replied.ensures
          c.say.ensures;
      text_same = refl;
    }

pub invariant_of-self-in_default : goal.invariant_of-self-in_default
invariant_of-self-in_default c =
    let desk = c.args.self.now in
    let ready : Ready desk.state = record { bounds = desk.bounds; next = c.requires } in
    let q = c.in_default in
    let takes =
    reply-takes (numbers_of desk) c.args.«record» ready q.not-Start q.not-Pt c.reply-replied.ensures c.say.ensures in
    record { bounds = takes.0.bounds; built = record-stays (numbers_of desk) c.args.«record» takes desk.built }
