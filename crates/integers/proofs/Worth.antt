-- What the machine makes of an expression is what it is over ℤ, where every stored step has a bound that its width
-- holds.
use Rattle.std.specs.Prelude.{◌≡◌, refl, List, ℕ, zero, suc, ◌^◌, T, ℤ, ◌+ℤ◌, ◌-ℤ◌, ◌*ℤ◌}
use Rattle.std.proofs.Common.{sym, ◌∙◌, ap, subst, ltb→lt, to_z-of_z}
use Rattle.std.specs.Int.{Width}
use mir.Val.{SFits, to_z, of_z}
use Rattle.std.proofs.Math.Facts.{and_yes}
use Rattle.integers.specs.Poly.{look, ⟦◌⟧}
use Rattle.integers.specs.Check.{Fun}
use Rattle.integers.specs.Range.{Abs≤, Each, nil, ◌&◌, bnd, fits-of}
use Rattle.integers.specs.Machine.{In, MExpr, inp, raw, lit, rd, ◌⊕◌, ◌⊖◌, ◌⊗◌, inps, plain, width_at, mval, bounds_of, ok, step}
use Rattle.integers.proofs.Bounded.{bnd-ok}

-- ---------------- they are worth the same

in-at : (n : ℕ) {ts : List (Width × ℕ)} {ρ : List ℤ} → Each In ts ρ → SFits (width_at n ts) (look n ρ)
in-at zero nil = record { sfits = ltb→lt 0 (2 ^ 63) tt }
in-at (suc n) nil = record { sfits = ltb→lt 0 (2 ^ 63) tt }
in-at zero (h & hs) = h.fit
in-at (suc n) (h & hs) = in-at n hs

in_bounds : {ts : List (Width × ℕ)} {ρ : List ℤ} → Each In ts ρ → Each Abs≤ (bounds_of ts) ρ
in_bounds nil = nil
in_bounds (h & hs) = record { abs = h.abs } & in_bounds hs

module _ {ts : List (Width × ℕ)} {ρ : List ℤ} (h : Each In ts ρ) where
  plain-bound : (e : MExpr) → Abs≤ (bnd (plain e) (bounds_of ts)) (⟦ plain e ⟧ ρ)
  plain-bound e = record { abs = bnd-ok (plain e) (in_bounds h) }

  mval-plain : (e : MExpr) → T (ok ts e) → mval ts e ρ ≡ ⟦ plain e ⟧ ρ
  mval-plain (inp n) t = to_z-of_z (in-at n h)
  mval-plain (raw e) t = refl
  mval-plain (lit c) t = refl
  mval-plain (rd w e) t =
      let s = and_yes (ok ts e) _ t in
      ap (λ (z : ℤ). to_z w (of_z w z)) (mval-plain e s.0) ∙ to_z-of_z (fits-of w (plain-bound e) s.1)
  mval-plain (a ⊕ b) t = let s = and_yes (ok ts a) (ok ts b) t in λ i. mval-plain a s.0 i +ℤ mval-plain b s.1 i
  mval-plain (a ⊖ b) t = let s = and_yes (ok ts a) (ok ts b) t in λ i. mval-plain a s.0 i -ℤ mval-plain b s.1 i
  mval-plain (a ⊗ b) t = let s = and_yes (ok ts a) (ok ts b) t in λ i. mval-plain a s.0 i *ℤ mval-plain b s.1 i

  mval-bound : (e : MExpr) → T (ok ts e) → Abs≤ (bnd (plain e) (bounds_of ts)) (mval ts e ρ)
  mval-bound e t = subst (Abs≤ (bnd (plain e) (bounds_of ts))) (sym (mval-plain e t)) (plain-bound e)

  mval-fits : (w : Width) (e : MExpr) → T (ok ts (rd w e)) → SFits w (mval ts e ρ)
  mval-fits w e t = let s = and_yes (ok ts e) _ t in fits-of w (mval-bound e s.0) s.1

-- ---------------- n numbers that come in: `reads 2 f (h & k & nil) tt`

-- what the machine makes of f is what f is over ℤ
pub reads : (n : ℕ) (f : Fun n MExpr MExpr) {ts : List (Width × ℕ)} {ρ : List ℤ} → Each In ts ρ → T (ok ts (inps n f))
    → mval ts (inps n f) ρ ≡ ⟦ plain (inps n f) ⟧ ρ
reads n f h t = mval-plain h (inps n f) t

-- it fits the width at which it is to be stored
pub safe : (n : ℕ) (w : Width) (f : Fun n MExpr MExpr) {ts : List (Width × ℕ)} {ρ : List ℤ} → Each In ts ρ
    → T (ok ts (rd w (inps n f))) → SFits w (mval ts (inps n f) ρ)
safe n w f h t = mval-fits h w (inps n f) t

-- ---------------- step by step

-- step k of f fits its width
pub safe-step : (n : ℕ) (f : Fun n MExpr MExpr) (k : ℕ) {ts : List (Width × ℕ)} {ρ : List ℤ} → Each In ts ρ
    → T (ok ts (rd (step n f k).0 (step n f k).1)) → SFits (step n f k).0 (mval ts (step n f k).1 ρ)
safe-step n f k h t = mval-fits h (step n f k).0 (step n f k).1 t
