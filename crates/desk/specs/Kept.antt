-- How the program keeps a line: the numbers at the front of its store, and how many points they are. The sizes of a
-- store, of a table, and of what is kept of a text line.
use Rattle.std.specs.Prelude.{◌≡◌, false, List, ℕ, ◌+◌, ◌-◌, ◌*◌, ◌≤◌, ℤ, length, take}
use Rattle.rules.specs.Tree.{width, row_count}
use Rattle.words.specs.Records.{longest}
use Rattle.desk.specs.declared.Held.{Held}
use Rattle.desk.specs.Desk.{Store, room}

abbrev pub store_in : Held → List ℤ → Store
store_in h numbers = record { points = take (2 * h.count) numbers; over = h.over }

abbrev pub no_points : Held
no_points = record { count = 0; over = false; built = false }

-- a store has the numbers of as many points as it has room for, and no more are counted
pub record Stored (h : Held) (numbers : List ℤ) : Type 0 where
  pub whole : length numbers ≡ 2 * room
  pub counted : h.count ≤ room

-- the numbers that the table of as many points takes: one segment fewer than points
abbrev pub table_room : ℕ
table_room = width * row_count (room - 1)

-- one byte more than a text line may have is kept of it
abbrev pub kept_bytes : ℕ
kept_bytes = longest + 1
