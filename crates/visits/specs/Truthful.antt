-- Demand 2, as it is said of a walk and of an answer: under any allowance it is undecided, or it is what plain geometry
-- says.
use Rattle.std.specs.Prelude.{◌≡◌, Bool, true, false, cond, ◌⊎◌}
use Rattle.rules.specs.declared.Word.{Word}
use Rattle.rules.specs.declared.Word.TheVariants.{YES, NO, UNDECIDED}
use Rattle.rules.specs.declared.Reply.{Reply}
use Rattle.rules.specs.Walk.{Walked, ended, over, spent, refused}
use Rattle.rules.specs.Questions.{Nothing}

-- of a walk that counts nothing, b being the plain answer: it ends on a yes alone, is over on a no alone, may be spent,
-- and is
-- never refused
abbrev pub WalkTruthful : Bool → Walked Nothing → Type 0
WalkTruthful b (ended y) = b ≡ true
WalkTruthful b (over k y) = b ≡ false
WalkTruthful b spent = Unit {0}
WalkTruthful b (refused r) = ⊥

-- never REFUSED, and no other word than this one
abbrev pub SaysOnly : Word → Reply → Type 0
SaysOnly w r = (r.word ≡ UNDECIDED) ⊎ (r.word ≡ w)

-- of a question that plain geometry answers by yes or no
abbrev pub Truthful : Bool → Reply → Type 0
Truthful b r = SaysOnly (cond b YES NO) r
