-- A formula, written once over `Ops A`: for ℤ, for the checker's terms, and for the machine's steps.
use Rattle.std.specs.Prelude.{ℤ, ◌+ℤ◌, ◌-ℤ◌, ◌*ℤ◌}
use Rattle.std.specs.Int.{Width}
use Rattle.integers.specs.Poly.{Expr, con, ◌:+◌, ◌:*◌, ◌:-◌}
use Rattle.integers.specs.Machine.{MExpr, lit, rd, ◌⊕◌, ◌⊖◌, ◌⊗◌}

pub record Ops (A : Type 0) : Type 0 where
  pub ◌⊹◌ : A → A → A
  pub ◌∸◌ : A → A → A
  pub ◌⋆◌ : A → A → A
  pub const : ℤ → A

abbrev pub onℤ : Ops ℤ
onℤ = record { ◌⊹◌ = ◌+ℤ◌; ◌∸◌ = ◌-ℤ◌; ◌⋆◌ = ◌*ℤ◌; const = λ c. c }

abbrev pub on_e : Ops Expr
on_e = record { ◌⊹◌ = ◌:+◌; ◌∸◌ = ◌:-◌; ◌⋆◌ = ◌:*◌; const = con }

-- each result is stored at the width
abbrev pub on_m : Width → Ops MExpr
on_m w = record { ◌⊹◌ = λ a b. rd w (a ⊕ b); ◌∸◌ = λ a b. rd w (a ⊖ b); ◌⋆◌ = λ a b. rd w (a ⊗ b); const = lit }
