-- `cross` is the formula, and each of its steps fits 64 bits.
use mir.Syntax.{w64}
use Rattle.integers.specs.Machine.{MExpr, rd, ◌⊖◌, ◌⊗◌}
use Rattle.integers.proofs.Worth.{safe-step, reads}
use Rattle.line.proofs.Smalls.{smalls}
use Rattle.line.proofs.cross.Statement.{statement}
use Rattle.line.proofs.cross.Tie as tie

-- the steps of the code, each stored in 64 bits
abbrev formula : MExpr → MExpr → MExpr → MExpr → MExpr
formula ux uy vx vy = rd w64 (rd w64 (ux ⊗ vy) ⊖ rd w64 (uy ⊗ vx))

-- once the numbers of one product are read, and of both
abbrev one : tie.After-struct_told-2-1 → tie.Start
one c = c.before.before.before.before

abbrev both : tie.After-struct_told-4-1 → tie.Start
both c = let first = c.before.before.before.before in one first

pub cross_spec : {M : Type 1} → statement M
cross_spec =
    tie.close (tie.spec
    (λ c. safe-step 4 formula 0 (smalls (one c).requires.0 (one c).requires.1) tt)
    (λ c. safe-step 4 formula 1 (smalls (both c).requires.0 (both c).requires.1) tt)
    (λ c. safe-step 4 formula 2 (smalls (both c).requires.0 (both c).requires.1) tt)
    (λ c. reads 4 formula (smalls (both c).requires.0 (both c).requires.1) tt))
