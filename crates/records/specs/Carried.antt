-- What the code carries from text line to text line, in the words of the definitions.
use Rattle.std.specs.Prelude.{List, ◌≤◌, ℤ}
use Rattle.desk.specs.Desk.{room, Desk}
use Rattle.desk.specs.Kept.{store_in, kept_bytes}
use Rattle.store.specs.declared.State.{State}

-- the desk, with the numbers of the two stores
abbrev pub desk_of : State → List ℤ → List ℤ → Desk
desk_of s a b =
    record {
      target = s.target;
      a = store_in s.a a;
      b = store_in s.b b;
      text_lines = s.read;
      printed_lines = s.printed;
    }

-- ---- what is counted keeps to the sizes, and no more lines are printed than text lines are read
pub record Bounds (s : State) : Type 0 where
  pub count-a : s.a.count ≤ room
  pub count-b : s.b.count ≤ room
  pub kept : s.pending ≤ kept_bytes
  pub ordinal : s.printed ≤ s.read
