-- `word`: the name of the word stands behind its tab.
use Rattle.std.proofs.Common.{[], ◌∷◌, arith}
use Rattle.print.proofs.Writing.{put-behind}
use Rattle.print.proofs.Printer.word.Goals as goal

pub returns-clause-put : goal.returns-clause-put
returns-clause-put c =
    rw (← c.name.ensures) (put-behind _ _ (omega arith) (9 ∷ []) c.byte.ensures.put c.bytes.ensures.put)
