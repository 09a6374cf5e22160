-- The point that AGREE's NO names.
use Rattle.std.specs.Prelude.{◌≡◌, Bool, true, false, List, ℕ, ◌<◌, ℤ}
use Rattle.rules.specs.declared.Line.{Line}
use Rattle.rules.specs.declared.Line.TheVariants.{NoLine, LineA, LineB}
use Rattle.rules.specs.Sheet.{point, points_of}
use Rattle.rules.specs.Plain.{plain_near}

-- of the points 0 to n - 1, point i is the first that is not near
pub record First (near : ℕ → Bool) (n i : ℕ) : Type 0 where
  pub below : i < n
  pub apart : near i ≡ false
  pub earlier : (j : ℕ) → j < i → near j ≡ true

-- whether point j of the one line is NEAR the other
abbrev pub near_other : List ℤ → List ℤ → ℤ → ℕ → Bool
near_other ps qs D j = plain_near qs (point ps j) D

-- each point of the one line is
abbrev pub AllNear : List ℤ → List ℤ → ℤ → Type 0
AllNear ps qs D = (j : ℕ) → j < points_of ps → near_other ps qs D j ≡ true

-- the first point of A that is not NEAR B; where each point of A is, the first of B that is not NEAR A
abbrev pub FirstApart : List ℤ → List ℤ → ℤ → Line → ℕ → Type 0
FirstApart ps qs D NoLine i = ⊥
FirstApart ps qs D LineA i = First (near_other ps qs D) (points_of ps) i
FirstApart ps qs D LineB i = AllNear ps qs D × First (near_other qs ps D) (points_of qs) i
