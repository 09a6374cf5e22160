-- A point in a store, a byte kept of a text line, and the states on the way from a text line to its outcome.
use Rattle.std.specs.Prelude.{◌≡◌, true, false, cond, Some, None, List, [], ◌∷◌, ◌++◌, ℕ, ◌+◌, ◌*◌, ◌≤◌, leb, ltb, ℤ, set, take}
use Rattle.rules.specs.declared.Line.{Line}
use Rattle.rules.specs.declared.Line.TheVariants.{NoLine, LineA, LineB}
use Rattle.rules.specs.Sheet.{points_of}
use Rattle.rules.specs.declared.Reply.{Reply}
use Rattle.words.specs.Records.{longest}
use Rattle.desk.specs.declared.Held.{Held}
use Rattle.desk.specs.Desk.{Store, room}
use Rattle.desk.specs.Chunks.{keep}
use Rattle.desk.specs.Kept.{no_points, store_in, kept_bytes}
use Rattle.store.specs.declared.State.{State}
use Rattle.store.specs.declared.Outcome.{Outcome}

-- ---- a point is written behind the points of a store, and past the 257th nothing is
unfoldable pub point_left : ℕ → List ℤ → ℤ → ℤ → List ℤ
point_left count store x y = cond (ltb count room) (set (set store (2 * count) x) (2 * count + 1) y) store

-- ---- a point behind the others, or past the 257th
abbrev pub with_point : Store → ℤ → ℤ → Store
with_point s x y =
    cond (ltb (points_of s.points) room) (record { points = s.points ++ x ∷ y ∷ []; over = s.over })
    (record { points = s.points; over = true })

-- ---- what is promised of a point more: how the line is held, and every number of the store
pub record Adds (h : Held) (numbers : List ℤ) (x y : ℤ) (r : Held) (after : List ℤ) : Type 0 where
  pub store : store_in r after ≡ with_point (store_in h numbers) x y
  pub counted : r.count ≤ room
  pub left : after ≡ point_left h.count numbers x y
  pub built : r.built ≡ false

-- ---- a byte is written behind the pending bytes, and past one byte more than a text line may have none is
unfoldable pub kept_left : ℕ → List ℕ → ℕ → List ℕ
kept_left pending text b = cond (leb pending longest) (set text pending b) text

-- ---- states on the way
abbrev pub counted : State → State
counted s =
    record { target = s.target; a = s.a; b = s.b; read = s.read + 1; printed = s.printed; pending = 0 }

abbrev pub with_a : State → Held → State
with_a s h =
    record { target = s.target; a = h; b = s.b; read = s.read; printed = s.printed; pending = s.pending }

abbrev pub with_b : State → Held → State
with_b s h =
    record { target = s.target; a = s.a; b = h; read = s.read; printed = s.printed; pending = s.pending }

abbrev pub with_pending : State → ℕ → State
with_pending s n =
    record { target = s.target; a = s.a; b = s.b; read = s.read; printed = s.printed; pending = n }

abbrev pub with_printed : State → ℕ → State
with_printed s n =
    record { target = s.target; a = s.a; b = s.b; read = s.read; printed = n; pending = s.pending }

abbrev pub aimed : State → Line → State
aimed s l =
    record { target = l; a = s.a; b = s.b; read = s.read; printed = s.printed; pending = s.pending }

abbrev pub started : State → Line → State
started s NoLine = aimed s NoLine
started s LineA = aimed (with_a s no_points) LineA
started s LineB = aimed (with_b s no_points) LineB

abbrev pub quietly : State → Outcome
quietly s = record { state = s; said = None }

abbrev pub sayingly : State → Reply → Outcome
sayingly s reply = record { state = with_printed s (s.printed + 1); said = Some reply }

-- ---- a byte kept of the text line that has not ended: of the state the pending bytes alone change
pub record Keeps (s : State) (text : List ℕ) (b : ℕ) (r : State) (after : List ℕ) : Type 0 where
  pub state : r ≡ with_pending s r.pending
  pub left : after ≡ kept_left s.pending text b
  pub bytes : take r.pending after ≡ keep (take s.pending text) b
  pub kept : r.pending ≤ kept_bytes
