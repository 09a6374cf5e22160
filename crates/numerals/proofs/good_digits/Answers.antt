-- `good_digits`: what `all` answers is whether each byte is a digit.
use Rattle.std.proofs.Common.{◌≡◌, rules, tests, arith}
use Rattle.std.specs.List.{list_all}
use Rattle.std.proofs.lemmas.Bool.Decides.{nat_tests}
use Rattle.std.proofs.lemmas.Iterator.{YieldsList-from_slice}
use Rattle.std.proofs.lemmas.Iterator.Search.{all_from_yields_List}
use Rattle.numerals.specs.Numerals.{is_digit, all_digits}
use Rattle.numerals.proofs.good_digits.Goals as goal

pub returns-then-f-le-MOST_DIGITS : goal.returns-then-f-le-MOST_DIGITS
unfolding all_digits
returns-then-f-le-MOST_DIGITS c =
    let f = c.args.f.now in
    let all : c.all.result ≡ list_all is_digit f =
    all_from_yields_List is_digit _ _ c.all.result c.all.ensures.ran (YieldsList-from_slice f cc)
    (λ x b q k. search (rules, tests)) in
    grind (arith, nat_tests)
