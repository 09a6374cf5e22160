-- The lengths of a line's slices: what is known once refusals 1, 2, 3 and 6 did not come.
use mathlib.Core.Path.{◌≡◌}
use mathlib.Core.List.{List}
use mathlib.Core.Option.{none}
use lib.IntN.{ℤ}
use Rattle.rules.specs.declared.Line.{Line}
use Rattle.rules.specs.Reply.{first_refusal}
use Rattle.rules.specs.Rows.{length_checks}
use Rattle.visits.proofs.Checks.{none-clear, lengths_read}
use Rattle.visits.specs.Fine.{LengthsFine}

pub lengths-fine : (l : Line) (ps t : List ℤ) → first_refusal (length_checks l ps t) ≡ none → LengthsFine ps t
lengths-fine l ps t e = lengths_read l ps t (none-clear (length_checks l ps t) e)
