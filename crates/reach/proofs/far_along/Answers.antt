-- `far_along` takes both shortfalls, which are at most |c| and |t| of z, and compares their squares.
use mathlib.Core.Path.{◌≡◌, sym, ap, ◌∙◌, subst}
use lib.IntN.{ℤ, pos, nat_abs, ◌+ℤ◌, ◌*ℤ◌}
use lib.Signed.{lt_z, ◌≤ℤ◌}
use mir.Syntax.{w64}
use mir.Val.{SFits, to_z, of_z}
use mir.Facts.{to_z-of_z}
use Rattle.integers.specs.Range.{Abs≤, abs-at}
use Rattle.rules.specs.Questions.{shortfall, far_from}
use Rattle.limits.specs.Small.{widest}
use Rattle.limits.proofs.Sizes.{c-wide, t-wide}
use Rattle.large.proofs.Squares.{of-magnitudes}
use Rattle.line.proofs.Stored.{stored-abs}
use Rattle.reach.proofs.Sizes.{reach-roomy, magnitude-roomy, shortfall-wide}
use Rattle.reach.proofs.Sizes.{size-stored, size_above, size-cast, size-roomy}
use borrow.Author.Rules.{rules}
use Rattle.reach.proofs.far_along.Goals as goal

-- what a shortfall is asked of: a range that was read holds 0 as it does where it stands, and v is as wide
holds-asked : {lo hi v r : ℤ} → SFits w64 lo → SFits w64 hi → lo ≤ℤ pos 0 → pos 0 ≤ℤ hi → r ≡ v → Abs≤ widest v
    → (to_z w64 (of_z w64 lo) ≤ℤ pos 0) × (pos 0 ≤ℤ to_z w64 (of_z w64 hi)) × Abs≤ widest (to_z w64 (of_z w64 r))
holds-asked f g low high e wide = (
  subst (λ (x : ℤ). x ≤ℤ pos 0) (sym (to_z-of_z f)) low,
  subst (λ (x : ℤ). pos 0 ≤ℤ x) (sym (to_z-of_z g)) high,
  stored-abs (abs-at (sym e) wide) tt,
)

pub shortfall-gc-requires : goal.shortfall-gc-requires
shortfall-gc-requires c =
    let p = c.requires in
    holds-asked (search rules) (search rules) p.0.cmin-low p.0.cmax-high c.c_at.ensures (c-wide p.1 p.2 p.3)

pub shortfall-gt-requires : goal.shortfall-gt-requires
shortfall-gt-requires c =
    let p = c.requires in
    holds-asked (search rules) (search rules) p.0.tmin-low p.0.tmax-high c.t_at.ensures (t-wide p.1 p.2 p.3)

pub overflow_cast-size2 : goal.overflow_cast-size2
overflow_cast-size2 c = size-cast c.requires.2 c.size2.ensures

-- what was told of a shortfall, as it is read back
told : {lo hi v r : ℤ} {s : _} → SFits w64 lo → SFits w64 hi → SFits w64 r → r ≡ v
    → pos s ≡ shortfall (to_z w64 (of_z w64 lo)) (to_z w64 (of_z w64 hi)) (to_z w64 (of_z w64 r))
    → pos s ≡ shortfall lo hi v
told f g h e said = said ∙ (λ i. shortfall (to_z-of_z f i) (to_z-of_z g i) ((to_z-of_z h ∙ e) i))

pub farther-requires : goal.farther-requires
farther-requires c =
    let p = c.requires in
    let gc = told (search rules) (search rules) (search rules) c.c_at.ensures c.shortfall-gc.ensures in
    let gt = told (search rules) (search rules) (search rules) c.t_at.ensures c.shortfall-gt.ensures in (
      magnitude-roomy (ap nat_abs gc) (shortfall-wide (c-wide p.1 p.2 p.3) p.0.cmin-low p.0.cmax-high) tt,
      magnitude-roomy (ap nat_abs gt) (shortfall-wide (t-wide p.1 p.2 p.3) p.0.tmin-low p.0.tmax-high) tt,
      reach-roomy p.4,
      size-roomy p.2 c.size2.ensures,
    )

pub returns : goal.returns
unfolding far_from
returns c D e =
    let u = c.requires.2 in
    let v = c.size2.ensures in
    let gc = told (search rules) (search rules) (search rules) c.c_at.ensures c.shortfall-gc.ensures in
    let gt = told (search rules) (search rules) (search rules) c.t_at.ensures c.shortfall-gt.ensures in
    c.farther.ensures
    ∙ of-magnitudes (pos c.shortfall-gc.result) (pos c.shortfall-gt.result) c.args.reach (size_above u v)
    ∙ (λ i. lt_z (e i *ℤ size-stored u v i) (gc i *ℤ gc i +ℤ gt i *ℤ gt i))
