-- The rules' c, t and |u|² as terms of the checker; and c and t are 0 at the start.
use mathlib.Core.Path.{◌≡◌}
use lib.IntN.{pos}
use Rattle.integers.specs.Poly.{Expr, con, ◌:+◌, ◌:*◌, ◌:-◌}
use Rattle.integers.specs.Check.{◌:=◌, ring}
use Rattle.rules.specs.declared.Point.{Point}
use Rattle.rules.specs.Plane.{c_at, t_at}

-- c and t of p, from s in the direction u
abbrev pub c_e : Expr → Expr → Expr → Expr → Expr → Expr → Expr
c_e sx sy ux uy px py = ux :* (py :- sy) :- uy :* (px :- sx)

abbrev pub t_e : Expr → Expr → Expr → Expr → Expr → Expr → Expr
t_e sx sy ux uy px py = ux :* (px :- sx) :+ uy :* (py :- sy)

abbrev pub size_e : Expr → Expr → Expr
size_e ux uy = ux :* ux :+ uy :* uy

pub c-start : (s u : Point) → c_at s u s ≡ pos 0
c-start s u = ring 4 (λ sx sy ux uy. c_e sx sy ux uy sx sy := con (pos 0)) tt s.x s.y u.x u.y

pub t-start : (s u : Point) → t_at s u s ≡ pos 0
t-start s u = ring 4 (λ sx sy ux uy. t_e sx sy ux uy sx sy := con (pos 0)) tt s.x s.y u.x u.y
