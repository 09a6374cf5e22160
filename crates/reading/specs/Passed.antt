-- What `pass` promises for each answer of `read`: none where the input cannot be read, 0 at its end, and above 0 the
-- number of bytes that came. The bytes to be written are those that the definitions print.
use Rattle.std.specs.Prelude.{◌≡◌, List, ◌++◌, ℕ, suc, ◌+◌, length, take, Option, None, Some}
use Rattle.store.specs.declared.State.{State}
use Rattle.records.specs.Left.{Slices}
use Rattle.byte.specs.Feeds.{fed, Feeds}
use Rattle.chunks.specs.Finishes.{Finishes, Leaves}
use Rattle.reading.specs.declared.Past.{Past}
use Rattle.reading.specs.declared.Next.TheVariants.{More, Ended, Failed}
use Rattle.reading.specs.After.{After}

-- n bytes are read so far
module _ (n : ℕ) (s : State) (lent : Slices) (before : List ℕ) (r : Past) (s' : State) (after : Slices)
    (out : List ℕ) where
  -- ---- it tells that the input cannot be read; nothing is changed, and nothing is printed
  pub record Fails : Type 0 where
    pub result : r ≡ record { wrote = 0; next = Failed }
    pub state : s' ≡ s
    pub left : after ≡ lent
    pub printed : out ≡ before

  -- ---- the end of the input: a last text line may lack its line feed
  pub record Ends : Type 0 where
    pub result : r ≡ record { wrote = r.wrote; next = Ended }
    pub finishes : Finishes s lent before r.wrote after out
    pub leaves : Leaves s lent before (fed s' r.wrote) after out

  -- ---- bytes came: what they come to, and what was held past some input is held past that input and these bytes
  pub record GoesOn (bytes : List ℕ) : Type 0 where
    pub result : r ≡ record { wrote = r.wrote; next = More (n + length bytes) }
    pub feeds : Feeds s lent bytes before 0 (fed s' r.wrote) after out
    pub behind : (input : List ℕ) → After input s lent → After (input ++ bytes) s' after

  -- ---- each answer in its case
  pub record Passed (got : Option ℕ) (chunk : List ℕ) : Type 0 where
    pub none : got ≡ None → Fails
    pub end : got ≡ Some 0 → Ends
    pub above : (k : ℕ) → got ≡ Some (suc k) → GoesOn (take (suc k) chunk)
