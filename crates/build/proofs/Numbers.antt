-- Numbers of 64 bits, as the machine reads them back.
use mathlib.Core.Path.{◌≡◌, refl}
use mathlib.Core.List.{List, [], ◌∷◌, ◌++◌}
use lib.IntN.{ℤ}
use mir.Syntax.{w64}
use mir.Val.{SFits, to_z, of_z}
use mir.Facts.{to_z-of_z}

-- each number of a list fits
abbrev pub AllFit : List ℤ → Type 0
AllFit [] = Unit {0}
AllFit (z ∷ zs) = SFits w64 z × AllFit zs

-- each number, out of 64 bits
abbrev pub stored : List ℤ → List ℤ
stored [] = []
stored (z ∷ zs) = to_z w64 (of_z w64 z) ∷ stored zs

pub stored_same : (zs : List ℤ) → AllFit zs → stored zs ≡ zs
stored_same [] h = refl
stored_same (z ∷ zs) h = λ d. to_z-of_z h.0 d ∷ stored_same zs h.1 d

-- numbers that fit are written as they are
pub stored-written : (zs rest : List ℤ) {ns t : List ℤ} → AllFit zs → zs ≡ ns → t ≡ stored zs ++ rest → t ≡ ns ++ rest
stored-written zs rest h e w = rw (stored_same zs h, e) at w
