-- `take_text`: the text line is counted, and then it is its record.
use Rattle.records.specs.Holds.{numbers_of}
use Rattle.records.proofs.Desks.{line-takes}
use Rattle.records.proofs.kept.Desk.take_text.Goals as goal

pub returns-clause-takes : goal.returns-clause-takes
returns-clause-takes c =
    let desk = c.args.self.now in
    line-takes desk.state c.args.text.now (numbers_of desk) (numbers_of c.take_record.new.self) c.counted-self.ensures
    c.record_of.ensures c.take_record.ensures.takes
