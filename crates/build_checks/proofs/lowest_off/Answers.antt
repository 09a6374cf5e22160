-- `lowest_off` finds the first point that is off the sheet.
use Rattle.std.proofs.Common.{rules, ◌≡◌, true, false}
use Rattle.std.proofs.lemmas.Iterator.{first_from_Range}
use Rattle.rules.specs.Build.{off_sheet}
use Rattle.build_checks.proofs.Lowest.{lowest_found}
use Rattle.build_checks.proofs.lowest_off.Goals as goal

pub returns : goal.returns
returns c =
    let off = off_sheet c.args.points.now in
    lowest_found off c.args.count c.find.result
    (first_from_Range _ _ _ _ (λ i. off i ≡ true) (λ i. off i ≡ false) c.find.ensures.ran (λ i q k. search rules)
    (λ i q k. search rules))
