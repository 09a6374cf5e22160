-- Why an early refusal comes.
use Rattle.std.specs.Prelude.{◌≡◌, true, List, ◌∷◌, ◌++◌}
use Rattle.rules.specs.declared.Refusal.{Refusal}
use Rattle.rules.specs.Reply.{Check, early}
use Rattle.visits.specs.Clear.{Clear}

-- a check holds and no earlier one does; the refusal is that check's
pub record Reason (ks : List Check) (f : Refusal) : Type 0 where
  pub earlier : List Check
  pub check : Check
  pub later : List Check
  pub parts : ks ≡ earlier ++ check ∷ later
  pub clear : Clear earlier
  pub holds : check.holds ≡ true
  pub told : f ≡ early check
