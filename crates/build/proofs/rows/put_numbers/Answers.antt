-- `put_numbers`: each number is stored in its place at the front.
use Rattle.std.proofs.Common.{rules, ◌∙◌, ◌++◌}
use lib.ListN.{drop}
use lib.Seq.{sets-eq}
use Rattle.rules.specs.Tree.{width, numbers}
use Rattle.build.proofs.Numbers.{AllFit, stored, stored_same}
use Rattle.build.proofs.rows.put_numbers.Goals as goal

pub returns : goal.returns
returns c =
    let t = c.args.table.now in
    let row = numbers c.args.row in
    let fit : AllFit row = search rules in
    sets-eq (stored row) t 0 c.requires ∙ (λ d. stored_same row fit d ++ drop width t)
