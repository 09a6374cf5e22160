-- What the machine computes on signed integers, against the numbers. A local holds bits, so each use of a number z of
-- width w
-- reads `to_z w (of_z w z)`. An expression of bounded numbers, every stored step of which fits, is worth what it is in ℤ.
use Rattle.std.specs.Prelude.{◌≡◌, Bool, true, ◌&&◌, List, [], ◌∷◌, ℕ, zero, suc, ◌^◌, ◌≤◌, ◌<◌, T, ltb, eqb, ℤ, pos, nat_abs, ◌+ℤ◌, ◌-ℤ◌, ◌*ℤ◌, ◌≤ℤ◌}
use Rattle.std.proofs.Common.{sym, ◌∙◌, ap, to_z-of_z}
use Rattle.std.specs.Int.Signed.{mag, nat_abs-le, non_neg, yes_non_neg}
use Rattle.std.specs.Int.{Width, w64}
use mir.Val.{SFits, Fits, hbits, bits, to_z, of_z}
use Rattle.std.proofs.Math.Facts.{and_yes, Fits-nat_abs, eqb_yes, yes_eqb}
use Rattle.integers.specs.Poly.{Expr, var, con, ◌:+◌, ◌:*◌, ◌:-◌, look, ⟦◌⟧}
use Rattle.integers.specs.Check.{Fun, fill}
use Rattle.integers.specs.Range.{Abs≤, Each, nil, ◌&◌, bnd, fits-of}
use Rattle.integers.specs.Order.{T-iff, eq_z, eq_z-yes, yes-eq_z}
pub use Rattle.integers.specs.Order.{lt_yes, lt_no, le_yes}

-- ---------------- what comes in

-- x comes in at a width, and its magnitude is at most a bound
pub record In (t : Width × ℕ) (x : ℤ) : Type 0 where
  pub fit : SFits t.0 x
  pub abs : nat_abs x ≤ t.1

-- by a bound, and by the width alone
pub in-abs : {w : Width} {B : ℕ} {x : ℤ} → Abs≤ B x → T (ltb B (2 ^ hbits w)) → In (w, B) x
in-abs {w} h t = record { fit = fits-of w h t; abs = h.abs }

pub in-fits : {w : Width} {x : ℤ} → SFits w x → In (w, 2 ^ hbits w) x
in-fits {w} {x} h = record { fit = h; abs = nat_abs-le x h.sfits }

-- several at one width, by their bounds
abbrev pub at_width : Width → List ℕ → List (Width × ℕ)
at_width w [] = []
at_width w (b ∷ bs) = (w, b) ∷ at_width w bs

abbrev pub below : Width → List ℕ → Bool
below w [] = true
below w (b ∷ bs) = ltb b (2 ^ hbits w) && below w bs

pub ins-abs : (w : Width) {bs : List ℕ} {ρ : List ℤ} → Each Abs≤ bs ρ → T (below w bs) → Each In (at_width w bs) ρ
ins-abs w nil t = nil
ins-abs w {bs = b ∷ bs} (h & hs) t =
    let s = and_yes (ltb b (2 ^ hbits w)) (below w bs) t in in-abs h s.0 & ins-abs w hs s.1

-- ---------------- the machine's expressions

infixl 6 ◌⊕◌ ◌⊖◌
infixl 7 ◌⊗◌
pub data MExpr : Type 0 where
  inp : ℕ → MExpr  -- what comes in, read at its own width
  raw : MExpr → MExpr  -- what is a number already: of a loop's local s, `to_z w s`
  lit : ℤ → MExpr
  rd : Width → MExpr → MExpr  -- what is stored at a width, and read back
  ◌⊕◌ ◌⊖◌ ◌⊗◌ : MExpr → MExpr → MExpr

abbrev pub inps : {B : Type 0} (n : ℕ) → Fun n MExpr B → B
inps n f = fill inp n 0 f

-- the term that it is over ℤ
abbrev pub plain : MExpr → Expr
plain (inp n) = var n
plain (raw e) = plain e
plain (lit c) = con c
plain (rd w e) = plain e
plain (a ⊕ b) = plain a :+ plain b
plain (a ⊖ b) = plain a :- plain b
plain (a ⊗ b) = plain a :* plain b

abbrev pub width_at : ℕ → List (Width × ℕ) → Width
width_at n [] = w64
width_at zero (t ∷ ts) = t.0
width_at (suc n) (t ∷ ts) = width_at n ts

-- what the machine makes of it
abbrev pub mval : List (Width × ℕ) → MExpr → List ℤ → ℤ
mval ts (inp n) ρ = to_z (width_at n ts) (of_z (width_at n ts) (look n ρ))
mval ts (raw e) ρ = ⟦ plain e ⟧ ρ
mval ts (lit c) ρ = c
mval ts (rd w e) ρ = to_z w (of_z w (mval ts e ρ))
mval ts (a ⊕ b) ρ = mval ts a ρ +ℤ mval ts b ρ
mval ts (a ⊖ b) ρ = mval ts a ρ -ℤ mval ts b ρ
mval ts (a ⊗ b) ρ = mval ts a ρ *ℤ mval ts b ρ

abbrev pub bounds_of : List (Width × ℕ) → List ℕ
bounds_of [] = []
bounds_of (t ∷ ts) = t.1 ∷ bounds_of ts

-- every step that is stored has a bound that its width holds
abbrev pub ok : List (Width × ℕ) → MExpr → Bool
ok ts (inp n) = true
ok ts (raw e) = true
ok ts (lit c) = true
ok ts (rd w e) = ok ts e && ltb (bnd (plain e) (bounds_of ts)) (2 ^ hbits w)
ok ts (a ⊕ b) = ok ts a && ok ts b
ok ts (a ⊖ b) = ok ts a && ok ts b
ok ts (a ⊗ b) = ok ts a && ok ts b

-- ---------------- step by step

-- the stored steps of an expression, in the order in which the machine takes them: a width, and what is stored
abbrev pub steps_to : MExpr → List (Width × MExpr) → List (Width × MExpr)
steps_to (inp n) acc = acc
steps_to (raw e) acc = acc
steps_to (lit c) acc = acc
steps_to (rd w e) acc = steps_to e ((w, e) ∷ acc)
steps_to (a ⊕ b) acc = steps_to a (steps_to b acc)
steps_to (a ⊖ b) acc = steps_to a (steps_to b acc)
steps_to (a ⊗ b) acc = steps_to a (steps_to b acc)

abbrev pub step_at : ℕ → List (Width × MExpr) → Width × MExpr
step_at k [] = (w64, lit (pos 0))
step_at zero (s ∷ ss) = s
step_at (suc k) (s ∷ ss) = step_at k ss

abbrev pub step : (n : ℕ) → Fun n MExpr MExpr → ℕ → Width × MExpr
step n f k = step_at k (steps_to (inps n f) [])

-- ---------------- a call

-- a call's result r, read back, is what the call ensures that it is
pub result : (w : Width) {r x : ℤ} → mag r < 2 ^ hbits w → r ≡ x → to_z w (of_z w r) ≡ x
result w f e = to_z-of_z (record { sfits = f }) ∙ e

-- ---------------- the test ==, which compares bits

pub eq_yes : (w : Width) {x y : ℤ} → SFits w x → SFits w y → of_z w x ≡ of_z w y → x ≡ y
eq_yes w f g e = sym (to_z-of_z f) ∙ ap (to_z w) e ∙ to_z-of_z g

-- as a value: whether x = y
pub eq-bits : (w : Width) {x y : ℤ} → SFits w x → SFits w y → eqb (of_z w x) (of_z w y) ≡ eq_z x y
eq-bits w {x} {y} f g =
    T-iff (eqb (of_z w x) (of_z w y)) (eq_z x y)
    (λ t. yes-eq_z (eq_yes w f g (eqb_yes t))) (λ t. yes_eqb (ap (of_z w) (eq_z-yes {a = x} {b = y} t)))

-- ---------------- casts to an unsigned width

-- r, which is the number x ≥ 0 of a signed width, fits an unsigned one that is as wide
pub nat-cast : {w w' : Width} {r x : ℤ} → SFits w x → T (ltb (hbits w) (bits w')) → r ≡ x → pos 0 ≤ℤ x
    → T (non_neg r) × Fits w' (nat_abs r)
nat-cast {w'} f t e h = rw e (yes_non_neg h, Fits-nat_abs t f)
