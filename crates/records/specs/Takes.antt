-- What a text line comes to in code, and what is promised of it.
use Rattle.std.specs.Prelude.{◌≡◌, cond, Option, List, ℕ, ltb, ℤ}
use Rattle.rules.specs.declared.Line.{Line}
use Rattle.words.specs.declared.Record.{Record}
use Rattle.desk.specs.Desk.{room, Taken, refused_at, take_point, take_record, take_text}
use Rattle.store.specs.declared.State.{State}
use Rattle.rules.specs.declared.Reply.{Reply}
use Rattle.store.specs.declared.Outcome.{Outcome}
use Rattle.store.specs.States.{counted, quietly, sayingly}
use Rattle.records.specs.Left.{Both, Numbers, stores_left, record_left, text_left}
use Rattle.records.specs.Built.{built_in, points_change, record_built, text_built}
use Rattle.records.specs.Carried.{desk_of, Bounds}

-- ---- what a desk comes to, and what is said
abbrev pub outcome_of : State → Option Reply → Outcome
outcome_of s said = record { state = s; said = said }

-- ---- the definitions' values of an outcome
abbrev pub taken_in : Outcome → List ℤ → List ℤ → Taken
taken_in t a b = record { desk = desk_of t.state a b; said = t.said }

-- ---- an outcome from a state: the desk and what is said are the definition's
pub record Takes (t : Taken) (s : State) (r : Outcome) (a b : List ℤ) : Type 0 where
  pub taken : taken_in r a b ≡ t
  pub bounds : Bounds r.state
  pub read : r.state.read ≡ s.read
  pub pending : r.state.pending ≡ s.pending

-- ---- a point is on its line: nothing is said where there was room behind this many, and else refusal 13
abbrev pub point_said : State → Line → ℕ → Outcome
point_said s l count = cond (ltb count room) (quietly s) (sayingly s (refused_at 13 l s.read))

-- ---- what a point, a record and a text line come to, what they leave in the numbers, and which tables are built then
abbrev pub TakesPoint : State → ℤ → ℤ → Both → Outcome → Both → Type 0
TakesPoint s x y stores r after =
    let d = desk_of s stores.a stores.b in
    Takes (take_point d s.target x y) s r after.a after.b × (after ≡ stores_left d s.target stores x y)
    × (built_in r.state ≡ points_change s.target (built_in s))

abbrev pub TakesRecord : State → Record → Numbers → Outcome → Numbers → Type 0
TakesRecord s q n r after =
    let d = desk_of s n.stores.a n.stores.b in
    Takes (take_record d q) s r after.stores.a after.stores.b × (after ≡ record_left d n q)
    × (built_in r.state ≡ record_built d n.tables (built_in s) q)

abbrev pub TakesText : State → List ℕ → Numbers → Outcome → Numbers → Type 0
TakesText s text n r after =
    let d = desk_of s n.stores.a n.stores.b in
    Takes (take_text d text) (counted s) r after.stores.a after.stores.b × (after ≡ text_left d n text)
    × (built_in r.state ≡ text_built d n.tables (built_in s) text)
