-- Demand 3 of one question, its reply seen as a function of the allowance alone: the written walk needs a number of
-- visits that no allowance changes; with that many the answer is given, with fewer the reply is Undecided.
use Rattle.std.specs.Prelude.{◌≡◌, ◌≢◌, ℕ, ◌≤◌, ◌<◌}
use Rattle.rules.specs.declared.Word.TheVariants.{UNDECIDED}
use Rattle.rules.specs.declared.Reply.{Reply}
use Rattle.rules.specs.Reply.{says}

-- `enough` visits are enough
pub record Decides (reply : ℕ → Reply) (enough : ℕ) : Type 0 where
  pub needs : ℕ  -- the visits that the written walk needs
  pub answer : Reply  -- an answer or a refusal
  pub decided : answer.word ≢ UNDECIDED
  pub counted : answer.visits ≡ needs
  pub bounded : needs ≤ enough
  pub given : (allowance : ℕ) → needs ≤ allowance → reply allowance ≡ answer
  pub undecided : (allowance : ℕ) → allowance < needs → reply allowance ≡ says UNDECIDED allowance
