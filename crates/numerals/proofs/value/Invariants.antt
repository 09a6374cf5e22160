-- `value`: what is written so far, with the digits that are left, writes the number.
use Rattle.std.proofs.Common.{◌≡◌, true, drop}
use Rattle.numerals.specs.Numerals.{all_digits, value_from}
use Rattle.numerals.proofs.value.Given as goal

abbrev pub invariant-loop-digit : goal.invariant-loop-digit
invariant-loop-digit l =
    (all_digits (drop l.digit-index l.f) ≡ true) × (value_from 0 l.f ≡ value_from l.number (drop l.digit-index l.f))
