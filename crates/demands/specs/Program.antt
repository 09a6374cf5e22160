-- What it means that the question program answers as plain geometry says, and which lines it has no refusal for.
use Rattle.std.specs.Prelude.{◌≡◌, false, Some, List, ℕ, ◌≤◌, ◌<◌}
use Rattle.std.proofs.Math.Option.{none}
use Rattle.rules.specs.declared.Word.TheVariants.{UNDECIDED}
use Rattle.rules.specs.declared.Reply.{Reply}
use Rattle.rules.specs.Reply.{says}
use Rattle.rules.specs.Build.{build_refusal, table_of}
use Rattle.words.specs.declared.Record.{Record}
use Rattle.words.specs.Records.{record_of}
use Rattle.desk.specs.Desk.{Store, Desk, take_text}

-- no point past the 257th came, and the points build
pub record Builds (s : Store) : Type 0 where
  pub kept : s.over ≡ false
  pub unrefused : build_refusal s.points (table_of s.points) ≡ none

-- As Answers, of what the program says at a desk to any text line that asks the question; `asks` is its record.
pub record ProgramAnswers (d : Desk) (asks : ℕ → Record) (plain : ℕ → Reply) (enough : ℕ) : Type 0 where
  pub needs : ℕ
  pub bounded : needs ≤ enough
  pub given : (text : List ℕ) (allowance : ℕ) → record_of text ≡ asks allowance → needs ≤ allowance
      → (take_text d text).said ≡ Some (plain needs)
  pub undecided : (text : List ℕ) (allowance : ℕ) → record_of text ≡ asks allowance → allowance < needs
      → (take_text d text).said ≡ Some (says UNDECIDED allowance)
