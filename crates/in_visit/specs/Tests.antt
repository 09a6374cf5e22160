-- IN's tests of a node, in the words of the definitions; it counts the chords that cross, odd or even.
use Rattle.std.specs.Prelude.{◌≡◌, Bool, true, false, cond, refl}
use Rattle.rules.specs.declared.Point.{Point}
use Rattle.rules.specs.Plain.{on_segment, crosses, ◌⊕◌}
use Rattle.rules.specs.Questions.{clear_of, count}
use Rattle.walk.specs.Tests.{Tests, Counting}

-- for the point z
abbrev pub in_tests : Point → Tests
in_tests z = record { dismisses = λ r a u. clear_of r a u z; meets = on_segment z; crosses = crosses z }

pub parity-adds : (is_odd crossed : Bool) → cond (is_odd ⊕ crossed) true false ≡ count crossed (cond is_odd true false)
parity-adds true true = refl
parity-adds true false = refl
parity-adds false true = refl
parity-adds false false = refl

abbrev pub parity : Counting Bool
parity = record { even = false; odd = true; after = count; adds = parity-adds }
