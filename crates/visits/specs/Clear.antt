-- A list of checks of which not one holds.
use Rattle.std.specs.Prelude.{◌≡◌, false, List, [], ◌∷◌}
use Rattle.rules.specs.Reply.{Check}

abbrev pub Clear : List Check → Type 0
Clear [] = Unit {0}
Clear (k ∷ ks) = (k.holds ≡ false) × Clear ks
