-- A number in decimal digits, most significant first, no leading zero.
use Rattle.std.specs.Prelude.{◌≡◌, cond, List, [], ◌∷◌, ◌++◌, ℕ, zero, suc, ◌+◌, ◌/◌, ◌%◌, ◌≤◌, ◌<◌, ltb, length, get_or}
use Rattle.numerals.specs.Numerals.{value_from}

-- with at most this many digits before the last
unfoldable pub digits_of : ℕ → ℕ → List ℕ
digits_of zero n = (48 + n % 10) ∷ []
digits_of (suc more) n =
    let front = digits_of more (n / 10) in cond (ltb n 10) ((48 + n) ∷ []) (front ++ (48 + n % 10) ∷ [])

-- of any number of 64 bits
abbrev pub decimal : ℕ → List ℕ
decimal n = digits_of 19 n

-- ---- what the digits of a number have to be
abbrev pub Digits : List ℕ → Type 0
Digits [] = Unit {0}
Digits (b ∷ bs) = (48 ≤ b) × (b ≤ 57) × Digits bs

-- the bytes are digits, they write n, and a zero stands in front only where it is alone
pub record Writes (bytes : List ℕ) (n : ℕ) : Type 0 where
  pub digits : Digits bytes
  pub value : value_from 0 bytes ≡ n
  pub front : 1 < length bytes → 49 ≤ get_or bytes 0 0
