-- `letter`: the letter stands behind its tab.
use Rattle.std.proofs.Common.{[], ◌∷◌, arith}
use Rattle.print.proofs.Writing.{put-behind}
use Rattle.print.proofs.Printer.letter.Goals as goal

pub returns-clause-put : goal.returns-clause-put
returns-clause-put c =
    rw (← c.letter.ensures) (put-behind _ _ (omega arith) (9 ∷ []) c.byte.ensures.put c.byte-2.ensures.put)
