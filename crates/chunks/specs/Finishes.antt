-- What is promised of the end of the input: its bytes, and the desk that is left.
use Rattle.std.specs.Prelude.{◌≡◌, [], ◌∷◌, List, ℕ}
use Rattle.words.specs.Fields.{line_feed}
use Rattle.print.specs.Put.{Put}
use Rattle.desk.specs.Chunks.{print_last}
use Rattle.store.specs.declared.State.{State}
use Rattle.records.specs.Left.{Slices, end_left}
use Rattle.byte.specs.Feeds.{carry_of, Fed, Feeds}

-- what is left in the slices and printed is the definition's; of the text line that has not ended nothing changes
module _ (s : State) (lent : Slices) (before : List ℕ) where
  pub record Finishes (r : ℕ) (after : Slices) (out : List ℕ) : Type 0 where
    pub left : after ≡ record { numbers = end_left (carry_of s lent) lent.numbers; text = lent.text }
    pub printed : Put before 0 (print_last (carry_of s lent)) out r

  -- the state is what it was where no byte is pending, and else what a line feed makes of it
  pub record Leaves (r : Fed) (after : Slices) (out : List ℕ) : Type 0 where
    pub same : s.pending ≡ 0 → r.state ≡ s
    pub ended : (s.pending ≡ 0 → ⊥) → Feeds s lent (line_feed ∷ []) before 0 r after out
