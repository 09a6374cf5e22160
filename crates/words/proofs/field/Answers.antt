-- `field`: the parts between the tabs are the fields; past them `field` is empty.
use Rattle.std.proofs.Common.{◌≡◌, eqb, rules, tests, arith, option_copied, slice_get}
use Rattle.std.proofs.lemmas.Grind.{common_steps}
use Rattle.std.proofs.lemmas.Option.{gets}
use Rattle.std.proofs.lemmas.Iterator.Splits.{YieldsList-from_slice_split}
use Rattle.std.proofs.lemmas.Iterator.Consumers.{nth_from_yields_List}
use Rattle.words.specs.Fields.{fields, tab}
use Rattle.words.proofs.field.Goals as goal

pub returns : goal.returns
unfolding fields
returns c =
    let text = c.args.text.now in
    let cut = c.split.ensures in
    let nth : option_copied c.nth.result ≡ slice_get (fields text) c.args.k =
    nth_from_yields_List c.nth.result _ c.args.k c.nth.ensures.ran
    (YieldsList-from_slice_split _ (λ b. eqb b tab) text cut.rest cut.done cut.closure
    (λ x b q k. search (rules, tests))) in
    grind (arith, common_steps, gets)
