-- What a question brings to the walk: its tests of a node, and what it counts.
use Rattle.std.specs.Prelude.{◌≡◌, Bool, cond}
use Rattle.rules.specs.declared.Point.{Point}
use Rattle.rules.specs.declared.Row.{Row}
use Rattle.rules.specs.Plain.{◌⊕◌}

-- a node is dismissed by its row, its start and where it heads; a segment that meets the question ends the walk; and
-- the chord of a node that is passed crosses, or not
pub record Tests : Type 0 where
  pub dismisses : Row → Point → Point → Bool
  pub meets : Point → Point → Bool
  pub crosses : Point → Point → Bool

-- the counts that even and odd stand for, and the count after one more chord that crosses, or not
pub record Counting (S : Type 0) : Type 0 where
  pub even : S
  pub odd : S
  pub after : Bool → S → S
  pub adds : (is_odd crossed : Bool) → cond (is_odd ⊕ crossed) odd even ≡ after crossed (cond is_odd odd even)

-- the count of so many crossings, by whether they are odd
abbrev pub count_of : {S : Type 0} → Counting S → Bool → S
count_of c is_odd = cond is_odd c.odd c.even
