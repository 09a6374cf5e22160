-- `field_count`: the parts between the tabs are the fields.
use Rattle.std.proofs.Common.{eqb, rules, tests}
use Rattle.std.proofs.lemmas.Iterator.Splits.{YieldsList-from_slice_split}
use Rattle.std.proofs.lemmas.Iterator.Consumers.{count_from_yields_List}
use Rattle.words.specs.Fields.{fields, tab}
use Rattle.words.proofs.field_count.Goals as goal

pub returns : goal.returns
unfolding fields
returns c =
    let cut = c.split.ensures in
    count_from_yields_List _ _ c.count.ensures.ran
    (YieldsList-from_slice_split _ (λ b. eqb b tab) c.args.text.now cut.rest cut.done cut.closure
    (λ x b q k. search (rules, tests)))
