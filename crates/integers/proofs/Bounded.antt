-- A polynomial of bounded numbers is within its computed bound: `within 2 f (h & k & nil)` bounds f of two bounded
-- numbers, and `fits 2 w f (h & k & nil) tt` says that it fits the signed width w.
use Rattle.std.specs.Prelude.{List, ℕ, zero, suc, ◌^◌, ◌≤◌, T, ltb, ℤ, nat_abs}
use Rattle.std.proofs.Common.{le_refl}
use Rattle.std.specs.Int.{Width}
use mir.Val.{SFits, hbits}
use Rattle.integers.specs.Poly.{Expr, var, con, ◌:+◌, ◌:*◌, ◌:-◌, :neg, look, ⟦◌⟧}
use Rattle.integers.specs.Check.{Fun, vars}
use Rattle.integers.specs.Range.{Abs≤, Each, nil, ◌&◌, lookℕ, bnd, add-bound, mul-bound, neg-bound, sub-bound, fits-of}

look-ok : (n : ℕ) {bs : List ℕ} {ρ : List ℤ} → Each Abs≤ bs ρ → nat_abs (look n ρ) ≤ lookℕ n bs
look-ok zero nil = le_refl 0
look-ok (suc n) nil = le_refl 0
look-ok zero (h & hs) = h.abs
look-ok (suc n) (h & hs) = look-ok n hs

pub bnd-ok : (e : Expr) {bs : List ℕ} {ρ : List ℤ} → Each Abs≤ bs ρ → nat_abs (⟦ e ⟧ ρ) ≤ bnd e bs
bnd-ok (var n) h = look-ok n h
bnd-ok (con c) h = le_refl (nat_abs c)
bnd-ok (a :+ b) {ρ} h = add-bound (⟦ a ⟧ ρ) (⟦ b ⟧ ρ) (bnd-ok a h) (bnd-ok b h)
bnd-ok (a :* b) {ρ} h = mul-bound (⟦ a ⟧ ρ) (⟦ b ⟧ ρ) (bnd-ok a h) (bnd-ok b h)
bnd-ok (a :- b) {ρ} h = sub-bound (⟦ a ⟧ ρ) (⟦ b ⟧ ρ) (bnd-ok a h) (bnd-ok b h)
bnd-ok (:neg a) {ρ} h = neg-bound (⟦ a ⟧ ρ) (bnd-ok a h)

-- the magnitude of f of bounded numbers is at most f of the bounds, its differences made sums
pub within : (n : ℕ) (f : Fun n Expr Expr) {bs : List ℕ} {ρ : List ℤ} → Each Abs≤ bs ρ
    → Abs≤ (bnd (vars n f) bs) (⟦ vars n f ⟧ ρ)
within n f h = record { abs = bnd-ok (vars n f) h }

-- and where that is below 2^31 or 2^63, f of them fits
pub fits : (n : ℕ) (w : Width) (f : Fun n Expr Expr) {bs : List ℕ} {ρ : List ℤ} → Each Abs≤ bs ρ
    → T (ltb (bnd (vars n f) bs) (2 ^ hbits w)) → SFits w (⟦ vars n f ⟧ ρ)
fits n w f h t = fits-of w (within n f h) t
