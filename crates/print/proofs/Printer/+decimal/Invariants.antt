-- `decimal`: the number falls to its tenth.
use Rattle.print.proofs.Printer.+decimal.Given as goal

abbrev pub decreases-decimal : goal.decreases-decimal
decreases-decimal l = l.n
