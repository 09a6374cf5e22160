-- No printed line is longer than the widest.
use Prim.Native.Nat.{ℕ, ◌≤◌}
use native.Mathlib.Omega.{arith}
use lib.ListN.{length, length-append}
use Rattle.rules.specs.declared.Word.{Word}
use Rattle.rules.specs.declared.Word.TheVariants.{YES, NO, INSIDE, OUTSIDE, ON, UNDECIDED, REFUSED}
use Rattle.rules.specs.declared.Reply.{Reply}
use Rattle.print.specs.Printed.{word_bytes, printed, widest}
use Rattle.print.proofs.Digits.{length-decimal}

-- No word is longer than UNDECIDED.
pub length-word : (w : Word) → length (word_bytes w) ≤ 9
length-word YES = omega arith
length-word NO = omega arith
length-word INSIDE = omega arith
length-word OUTSIDE = omega arith
length-word ON = omega arith
length-word UNDECIDED = omega arith
length-word REFUSED = omega arith

-- Every printed line fits into `widest` bytes.
pub printed-fits : (ordinal : ℕ) (r : Reply) → length (printed ordinal r) ≤ widest
unfolding printed
printed-fits ordinal r =
    simp length-append
    (omega (
      arith,
      length-decimal ordinal,
      length-word r.word,
      length-decimal r.visits,
      length-decimal r.number,
      length-decimal r.place,
    ))
