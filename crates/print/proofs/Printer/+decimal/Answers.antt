-- `decimal` writes the digits of the tenth, then the last: the law `decimal-more`.
use Rattle.std.proofs.Common.{sym, ◌/◌, ◌<◌, arith}
use native.Mathlib.Nat.{mod-eq_of_lt}
use Rattle.print.specs.Decimal.{decimal}
use Rattle.print.proofs.Digits.{decimal-one, decimal-more, length-tenth}
use Rattle.print.proofs.Writing.{put_same, put-behind, put-size}
use Rattle.print.proofs.Printer.+decimal.Goals as goal
use Rattle.print.proofs.Printer.+decimal.Goals.{then-n-ge10, else-n-ge10}

pub byte-requires : goal.byte-requires
byte-requires t c =
    elim c.if-n-ge10.branch [
      | then-n-ge10 w ↦
          let short = length-tenth c.args.n w.if-n-ge10.true c.ranges.n.fits in
          let size = put-size w.decimal.ensures.put in
          let behind = w.decimal.ensures.put.behind in
          rw w.self-is (omega arith)
      | else-n-ge10 w ↦ rw w.self-is (omega arith)
    ]

pub returns-clause-put : goal.returns-clause-put
returns-clause-put t c =
    elim c.if-n-ge10.branch [
      | then-n-ge10 w ↦
          put_same (sym (decimal-more c.args.n w.if-n-ge10.true c.ranges.n.fits))
          (put-behind _ _ (omega arith) (decimal (c.args.n / 10)) w.decimal.ensures.put
          (rw w.self-is at c.byte.ensures.put))
      | else-n-ge10 w ↦
          let one : c.args.n < 10 = omega arith in
          put_same (rw (mod-eq_of_lt one) (sym (decimal-one c.args.n one))) (rw w.self-is at c.byte.ensures.put)
    ]
