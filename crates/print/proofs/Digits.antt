-- Decimal digits: 20 of them hold every number of 64 bits, a number's digits are those of its tenth and its last, and
-- they read back as the number.
use mathlib.Core.Path.{◌≡◌, refl, ◌∙◌, ap}
use mathlib.Core.Bool.{Bool, true, false, cond}
use mathlib.Core.List.{List, [], ◌∷◌, ◌++◌}
use Prim.Native.Nat.{ℕ, zero, suc, ◌+◌, ◌*◌, ◌-◌, ◌/◌, ◌%◌, ◌^◌, ◌≤◌, ◌<◌}
use native.Mathlib.Omega.{arith}
use native.Mathlib.Nat.{mod-eq_of_lt, pow-suc}
use borrow.Author.Tests.{ltb-true, ltb-false, lt-ltb, le-ltb}
use lib.Dec.{ltb}
use lib.ListN.{length, get_or, length-append}
use Rattle.numerals.specs.Numerals.{value_from}
use Rattle.print.specs.Decimal.{digits_of, decimal, Digits, Writes}

-- A digit alone is the number; more digits are those of the tenth, and the last.
digits-one : (f n : ℕ) → n < 10 → digits_of f n ≡ (48 + n) ∷ []
unfolding digits_of
digits-one zero n h = ap (λ (k : ℕ). (48 + k) ∷ []) (mod-eq_of_lt h)
digits-one (suc f) n h =
    ap (λ (b : Bool). cond b ((48 + n) ∷ []) (digits_of f (n / 10) ++ (48 + n % 10) ∷ [])) (lt-ltb n 10 h)

digits_more : (f n : ℕ) → 10 ≤ n → digits_of (suc f) n ≡ digits_of f (n / 10) ++ (48 + n % 10) ∷ []
unfolding digits_of
digits_more f n h =
    ap (λ (b : Bool). cond b ((48 + n) ∷ []) (digits_of f (n / 10) ++ (48 + n % 10) ∷ [])) (le-ltb n 10 h)

-- What holds of a digit alone, and of more digits, holds of all digits of a number that they can hold.
tenth-below : (f : ℕ) {n : ℕ} → n < 10 ^ suc (suc f) → n / 10 < 10 ^ suc f
tenth-below f {n} h = omega (arith, pow-suc 10 (suc f))

by_digits : (P : List ℕ → ℕ → Type 0) → ((n : ℕ) → n < 10 → P ((48 + n) ∷ []) n) →
    ((bytes : List ℕ) (n : ℕ) → 10 ≤ n → P bytes (n / 10) → P (bytes ++ (48 + n % 10) ∷ []) n) →
    (f n : ℕ) → n < 10 ^ suc f → P (digits_of f n) n
by_digits P one more zero n h = rw (digits-one zero n h) (one n h)
by_digits P one more (suc f) n h = go (by_digits P one more f (n / 10) (tenth-below f h)) (ltb n 10) refl
  where
    go : P (digits_of f (n / 10)) (n / 10) → (b : Bool) → ltb n 10 ≡ b → P (digits_of (suc f) n) n
    go p true e = let h = ltb-true n 10 e in rw (digits-one (suc f) n h) (one n h)
    go p false e = let h = ltb-false n 10 e in rw (digits_more f n h) (more (digits_of f (n / 10)) n h p)

-- With enough digits, how many are allowed does not matter.
abbrev Enough : List ℕ → ℕ → Type 0
Enough bytes m = (g : ℕ) → m < 10 ^ suc g → digits_of g m ≡ bytes

enough-digits : (f g n : ℕ) → n < 10 ^ suc f → n < 10 ^ suc g → digits_of g n ≡ digits_of f n
enough-digits f g n h k = by_digits Enough (λ m l g k. digits-one g m l) more f n h g k
  where
    more : (bytes : List ℕ) (m : ℕ) → 10 ≤ m → Enough bytes (m / 10) → Enough (bytes ++ (48 + m % 10) ∷ []) m
    more bytes m l same zero k = absurd (omega arith)
    more bytes m l same (suc g) k = rw (digits_more g m l, same g (tenth-below g k))

-- ---------------- numbers of 64 bits
twenty-hold : {n : ℕ} → n < 2 ^ 64 → n < 10 ^ 20
twenty-hold h = omega arith

pub decimal-one : (n : ℕ) → n < 10 → decimal n ≡ (48 + n) ∷ []
decimal-one = digits-one 19

pub decimal-more : (n : ℕ) → 10 ≤ n → n < 2 ^ 64 → decimal n ≡ decimal (n / 10) ++ (48 + n % 10) ∷ []
decimal-more n h k =
    digits_more 18 n h ∙ rw (enough-digits 19 18 (n / 10) (omega arith) (omega arith))

-- The digits of a number are at most 20.
length_digits : (f n : ℕ) → length (digits_of f n) ≤ suc f
unfolding digits_of
length_digits zero n = omega arith
length_digits (suc f) n = go (ltb n 10) (length_digits f (n / 10))
  where
    go : (b : Bool) → length (digits_of f (n / 10)) ≤ suc f →
        length (cond b ((48 + n) ∷ []) (digits_of f (n / 10) ++ (48 + n % 10) ∷ [])) ≤ suc (suc f)
    go true h = omega arith
    go false h = simp length-append (omega arith)

pub length-decimal : (n : ℕ) → length (decimal n) ≤ 20
length-decimal = length_digits 19

pub length-tenth : (n : ℕ) → 10 ≤ n → n < 2 ^ 64 → length (decimal (n / 10)) < 20
length-tenth n h k =
    let more = ap length (decimal-more n h k) ∙ length-append (decimal (n / 10)) ((48 + n % 10) ∷ []) in
    let most = length-decimal n in
    omega arith

-- ---------------- the digits of a number read back as the number
value-behind : (xs : List ℕ) (v b : ℕ) → value_from v (xs ++ b ∷ []) ≡ 10 * value_from v xs + (b - 48)
unfolding value_from
value-behind [] v b = refl
value-behind (x ∷ xs) v b = value-behind xs (10 * v + (x - 48)) b

digits-behind : (xs : List ℕ) {b : ℕ} → Digits xs → 48 ≤ b → b ≤ 57 → Digits (xs ++ b ∷ [])
digits-behind [] d h k = (h, k, tt)
digits-behind (x ∷ xs) d h k = (d.0, d.1, digits-behind xs d.2 h k)

front-behind : (xs : List ℕ) (b : ℕ) → 0 < value_from 0 xs → (1 < length xs → 49 ≤ get_or xs 0 0) →
    49 ≤ get_or (xs ++ b ∷ []) 0 0
unfolding value_from
front-behind [] b h k = absurd (omega arith)
front-behind (d ∷ []) b h k = omega arith
front-behind (d ∷ e ∷ ds) b h k = k (omega arith)

-- The digits of a number of 64 bits are digits, they write the number, and no zero stands in front.
pub decimal-value : (n : ℕ) → n < 2 ^ 64 → Writes (decimal n) n
unfolding value_from
decimal-value n h = by_digits Writes one more 19 n (twenty-hold h)
  where
    one : (n : ℕ) → n < 10 → Writes ((48 + n) ∷ []) n
    one n h = record { digits = (omega arith, omega arith, tt); value = omega arith; front = λ k. absurd (omega arith) }

    more : (bytes : List ℕ) (n : ℕ) → 10 ≤ n → Writes bytes (n / 10) → Writes (bytes ++ (48 + n % 10) ∷ []) n
    more bytes n h w =
        let v : value_from 0 bytes ≡ n / 10 = w.value in
        record {
          digits = digits-behind bytes w.digits (omega arith) (omega arith);
          value = value-behind bytes 0 (48 + n % 10) ∙ omega arith;
          front = λ k. front-behind bytes (48 + n % 10) (omega arith) w.front;
        }
