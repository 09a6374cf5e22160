-- A fault as one number: 0 where there is none, else 32 times the row, and the number of the refusal.
use Rattle.std.specs.Prelude.{cond, ℕ, ◌/◌, ◌%◌, eqb}
use Rattle.std.proofs.Math.Option.{Option, none, some}
use Rattle.rules.specs.declared.Line.TheVariants.{LineA}
use Rattle.rules.specs.declared.Refusal.{Refusal}

-- past the number of every refusal
abbrev pub past : ℕ
past = 32

unfoldable pub found_fault : ℕ → Option Refusal
found_fault k = cond (eqb k 0) none (some (record { number = k % past; line = LineA; place = k / past; visits = 0 }))
