-- A run of the program over the slices: chunks fed one after another, and the end of the input.
use Rattle.std.specs.Prelude.{List, [], ◌∷◌, ◌++◌, ℕ, take}
use Rattle.store.specs.declared.State.{State}
use Rattle.records.specs.Left.{Slices}
use Rattle.byte.specs.Feeds.{Fed, Feeds}
use Rattle.chunks.specs.Finishes.{Finishes}

-- from a state and what the desk holds, over the chunks that are read, to the bytes that are written
pub data Runs : State → Slices → List (List ℕ) → List ℕ → Type 0 where
  ended : {s : State} {l l' : Slices} {before out : List ℕ} {r : ℕ} →
      Finishes s l before r l' out → Runs s l [] (take r out)
  fed : {s : State} {r : Fed} {l l' : Slices} {chunk before out written : List ℕ} {chunks : List (List ℕ)} →
      Feeds s l chunk before 0 r l' out → Runs r.state l' chunks written →
      Runs s l (chunk ∷ chunks) (take r.wrote out ++ written)
