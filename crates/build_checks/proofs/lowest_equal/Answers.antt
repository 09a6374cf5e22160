-- `lowest_equal` finds the first point that equals the next.
use Rattle.std.proofs.Common.{rules, ◌≡◌, true, false}
use Rattle.std.proofs.lemmas.Iterator.{first_from_Range}
use Rattle.rules.specs.Build.{equal_next}
use Rattle.build_checks.proofs.Lowest.{lowest_found}
use Rattle.build_checks.proofs.lowest_equal.Goals as goal

pub returns : goal.returns
returns c =
    let equal = equal_next c.args.points.now in
    lowest_found equal c.args.segments c.find.result
    (first_from_Range _ _ _ _ (λ i. equal i ≡ true) (λ i. equal i ≡ false) c.find.ensures.ran (λ i q k. search rules)
    (λ i q k. search rules))
