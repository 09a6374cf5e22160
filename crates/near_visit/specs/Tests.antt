-- NEAR's tests of a node, in the words of the definitions; it counts nothing.
use Rattle.std.specs.Prelude.{false, ℤ, refl}
use Rattle.rules.specs.declared.Point.{Point}
use Rattle.rules.specs.Plain.{within}
use Rattle.rules.specs.Questions.{Nothing, far_from}
use Rattle.walk.specs.Tests.{Tests, Counting}

-- for the point z and the distance D
abbrev pub near_tests : Point → ℤ → Tests
near_tests z D = record {
  dismisses = λ r a u. far_from r a u z D;
  meets = λ a b. within z a b D;
  crosses = λ a b. false;
}

abbrev pub nothing_counted : Counting Nothing
nothing_counted = record { even = tt; odd = tt; after = λ crossed k. k; adds = λ is_odd crossed. refl }
