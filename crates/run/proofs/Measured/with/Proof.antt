-- `with`: c and t of the point, each span by one call, and the top by another.
use mathlib.Core.Path.{sym, ◌∙◌}
use lib.IntN.{nat_abs}
use mir.Syntax.{w64}
use Rattle.integers.specs.Range.{abs-at, abs-weaken}
use Rattle.integers.specs.Machine.{result}
use Rattle.limits.proofs.Sizes.{c-wide}
use Rattle.line.proofs.Stored.{point-stored}
use Rattle.run.specs.Run.{span_with, top_with}
use borrow.Author.Rules.{rules}
use Rattle.run.proofs.Measured.with.Statement.{statement}
use Rattle.run.proofs.Measured.with.Tie as tie

-- the places of the code: past the strip's spans, past both of them and past c
abbrev stripped : tie.After-with-4 → tie.After-with-2
stripped c = c.before.before.before.before.before.before

abbrev spanned : tie.After-with-4 → tie.After-with
spanned c = (stripped c).before.before

abbrev beside : tie.After-with-4 → tie.After-c_at-c
beside c = (spanned c).before.before.before

magnitude-requires : tie.Need-magnitude-requires
magnitude-requires c κs =
    let k = beside c.before in
    let h = k.before.requires in
    abs-at (sym (result w64 k.c_at-c.type_inv k.c_at-c.ensures)) (abs-weaken (c-wide h.0 h.1 h.2) tt)

returns : tie.Need-returns
returns c =
    let y-read = c.before.before.before in
    let k = beside y-read in
    let t-read = (spanned y-read).before.before in
    let a = k.before.args in
    let p = point-stored k.before.requires.2 in
    let c-at = result w64 k.c_at-c.type_inv k.c_at-c.ensures in
    let t-at = result w64 t-read.t_at-t.type_inv t-read.t_at-t.ensures in
    let e = (spanned y-read).with.ensures ∙ (λ d. span_with a.self.c (c-at d)) in
    let f = (stripped y-read).with-2.ensures ∙ (λ d. span_with a.self.t (t-at d)) in
    let x = y-read.before.before.before.with-3.ensures ∙ (λ d. span_with a.self.x (p d).x) in
    let y = y-read.with-4.ensures ∙ (λ d. span_with a.self.y (p d).y) in
    let tall = c.before.magnitude.ensures ∙ (λ d. nat_abs (c-at d)) in
    let top = c.with-5.ensures ∙ (λ d. top_with a.last a.self.top a.i (tall d)) in
    λ d. record { c = e d; t = f d; x = x d; y = y d; top = top d }

pub with_spec : {M : Type 1} → statement M
with_spec =
    tie.close (tie.spec
    (search rules) (search rules) (search rules) (search rules) (search rules) (search rules) magnitude-requires
    (search rules) returns)
