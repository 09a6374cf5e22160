-- `numeral`: without a minus the magnitude; after one there is no number, or its negative is the number.
use Rattle.std.proofs.Common.{arith, take, drop, length, ◌-◌}
use Rattle.std.proofs.lemmas.Grind.{common_steps}
use Rattle.numerals.proofs.Digits.{numerals, negated}
use Rattle.numerals.proofs.numeral.Goals as goal

pub returns-in_default : goal.returns-in_default
returns-in_default c = grind (arith, common_steps, numerals)

pub returns-in_err-magnitude-in-45-2 : goal.returns-in_err-magnitude-in-45-2
returns-in_err-magnitude-in-45-2 c = grind (arith, common_steps, numerals)

pub returns-in_ok-magnitude-in-45-2 : goal.returns-in_ok-magnitude-in-45-2
returns-in_ok-magnitude-in-45-2 c =
    let f = c.args.f.now in
    let known = c.in_ok-magnitude-in-45-2.ensures in
    let same = negated (take (length f - 1) (drop 1 f)) _ known in
    grind (arith, common_steps, numerals, known)
