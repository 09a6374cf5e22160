-- Bytes written into a slice: none, and what stands behind bytes that were written already.
use mathlib.Core.Path.{◌≡◌, sym, ◌∙◌, ap, subst, subst⁻¹}
use mathlib.Core.List.{List, [], ◌++◌, append_assoc}
use Prim.Native.Nat.{ℕ, ◌+◌, ◌≤◌}
use native.Mathlib.Omega.{arith}
use lib.ListN.{length, take, drop, length-append, length-drop, length-take}
use lib.Seq.{length-take-le, take_at, drop_at, drop-drop}
use Rattle.std.proofs.lemmas.Grind.{common_steps}
use Rattle.print.specs.Put.{Put}

-- The same bytes, said another way.
pub put_same : {d xs ys e : List ℕ} {at i : ℕ} → xs ≡ ys → Put d at xs e i → Put d at ys e i
put_same {d} {xs} {ys} {e} {at} {i} same = subst (λ (bytes : List ℕ). Put d at bytes e i) same

-- The bytes of one case of a value, where the value is of that case.
pub put-case : {A : Type 0} (bytes : A → List ℕ) {x y : A} {d e : List ℕ} {at i : ℕ} → x ≡ y → Put d at (bytes y) e i →
    Put d at (bytes x) e i
put-case bytes same p = put_same (ap bytes (sym same)) p

-- Nothing written leaves all as it was.
pub put-none : (d : List ℕ) (at : ℕ) → Put d at [] d at
put-none d at = grind (arith, common_steps)

module _ (d : List ℕ) (at : ℕ) (inside : at ≤ length d) (xs : List ℕ) where
  abbrev head : List ℕ
  head = take at d ++ xs

  length-head : length head ≡ at + length xs
  length-head = simp (length-append, length-take-le at d inside)

  -- What stands up to the next place, and what stands from there on.
  module _ {e : List ℕ} {i : ℕ} (p : Put d at xs e i) where
    parted : e ≡ head ++ drop (at + length xs) d
    parted = rw append_assoc p.written

    front : take i e ≡ head
    front = (λ t. take (p.behind t) (parted t)) ∙ take_at head (drop (at + length xs) d) (at + length xs) length-head

    rest : drop i e ≡ drop (at + length xs) d
    rest = (λ t. drop (p.behind t) (parted t)) ∙ drop_at head (drop (at + length xs) d) (at + length xs) length-head

  -- Bytes written at the next place stand behind those written before.
  pub put-behind : {e f ys : List ℕ} {i j : ℕ} → Put d at xs e i → Put e i ys f j → Put d at (xs ++ ys) f j
  put-behind {e} {f} {ys} {i} {j} p q =
      let far : at + length xs + length ys ≡ at + length (xs ++ ys) = simp length-append (omega arith) in
      let past : drop (i + length ys) e ≡ drop (at + length (xs ++ ys)) d =
      rw (← drop-drop (length ys) i e, rest p, drop-drop, far) in
      let before = p.behind in
      let behind = q.behind in
      record {
        written = q.written ∙ (λ t. front p t ++ (ys ++ past t)) ∙ simp append_assoc;
        behind = omega arith;
      }

-- What is written from the start stands at the front, within the slice.
module _ {d xs e : List ℕ} {i : ℕ} (p : Put d 0 xs e i) where
  pub put_front : take i e ≡ xs
  put_front = front d 0 (omega arith) xs p

  pub put-within : i ≤ length e
  put-within = omega (arith, ap length put_front, length-take i e, p.behind)

-- No byte of the slice is lost.
pub put-size : {d xs e : List ℕ} {at i : ℕ} → Put d at xs e i → length d ≤ length e
put-size {d} {xs} {at = at} p =
    let size = ap length p.written ∙ length-append (take at d) (xs ++ drop (at + length xs) d) in
    omega (arith, length-append xs (drop (at + length xs) d), length-take at d, length-drop (at + length xs) d)

-- What is written is in the slice, however it is called.
pub put_left : {d xs e f : List ℕ} {at i : ℕ} → f ≡ e → Put d at xs e i → Put d at xs f i
put_left {d} {xs} {at = at} {i = i} same = subst⁻¹ (λ (left : List ℕ). Put d at xs left i) same
