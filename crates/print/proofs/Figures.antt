-- The output of the whole case of docs/RULES.md, section 7.9.
use mathlib.Core.Path.{◌≡◌, refl}
use mathlib.Core.List.{[], ◌∷◌, ◌++◌}
use Rattle.rules.specs.declared.Line.TheVariants.{LineB}
use Rattle.rules.specs.declared.Word.TheVariants.{YES, UNDECIDED}
use Rattle.rules.specs.Reply.{says, refuses}
use Rattle.print.specs.Decimal.{digits_of}
use Rattle.print.specs.Printed.{printed}

-- 1 YES 2 0 - 0; 2 UNDECIDED 1 0 - 0; 3 REFUSED 0 2 B 0
pub whole-case :
    printed 1 (says YES 2) ++ printed 2 (says UNDECIDED 1)
    ++ printed 3 (refuses (record { number = 2; line = LineB; place = 0; visits = 0 }))
    ≡ 49 ∷ 9 ∷ 89 ∷ 69 ∷ 83 ∷ 9 ∷ 50 ∷ 9 ∷ 48 ∷ 9 ∷ 45 ∷ 9 ∷ 48 ∷ 10
    ∷ 50 ∷ 9 ∷ 85 ∷ 78 ∷ 68 ∷ 69 ∷ 67 ∷ 73 ∷ 68 ∷ 69 ∷ 68 ∷ 9 ∷ 49 ∷ 9 ∷ 48 ∷ 9 ∷ 45 ∷ 9 ∷ 48 ∷ 10
    ∷ 51 ∷ 9 ∷ 82 ∷ 69 ∷ 70 ∷ 85 ∷ 83 ∷ 69 ∷ 68 ∷ 9 ∷ 48 ∷ 9 ∷ 50 ∷ 9 ∷ 66 ∷ 9 ∷ 48 ∷ 10 ∷ []
unfolding printed digits_of
whole-case = refl
