-- A table written in three steps: a row at the front, rows in a part of just their length, and rows in what is left.
use mathlib.Core.Path.{◌≡◌, sym, ap, ◌∙◌}
use mathlib.Core.List.{List, [], ◌++◌, append_assoc, append-nil}
use Prim.Native.Nat.{ℕ, ◌+◌, ◌*◌, ◌-◌, ◌≤◌, ◌<◌}
use native.Mathlib.Omega.{arith}
use lib.IntN.{ℤ}
use lib.ListN.{length, take, drop, length-append, length-drop, drop_of_length-le}
use lib.Seq.{take_at, drop_at, drop-drop, length-take-le, drop-length, take-length}
use Rattle.rules.specs.Tree.{width, row_count}

-- what a list is after its part from a on, of n numbers, was lent and came back as y
abbrev pub returned : ℕ → ℕ → List ℤ → List ℤ → List ℤ
returned a n t y = take a t ++ (y ++ drop n (drop a t))

-- t is the table lent; t1 has the row, y1 the left rows in the part up to k, t2 both, y2 the right rows in the part
-- from k on
pub three-parts : (t row L R t1 y1 t2 y2 : List ℤ) (k m : ℕ)
    → length row ≡ width → width ≤ k → length L ≡ k - width → k ≤ length t
    → t1 ≡ row ++ drop width t
    → y1 ≡ L ++ drop (length L) (take (k - width) (drop width t1))
    → t2 ≡ returned width (k - width) t1 y1
    → y2 ≡ R ++ drop m (take (length t2 - k) (drop k t2))
    → returned k (length t2 - k) t2 y2 ≡ (row ++ (L ++ R)) ++ drop (k + m) t
three-parts t row L R t1 y1 t2 y2 k m lr lk ll lt e1 e2 e3 e4 =
    let D = drop width t in
    let E = drop k t in
    let front : take width t1 ≡ row = ap (take width) e1 ∙ take_at row D width lr in
    let rest : drop width t1 ≡ D = ap (drop width) e1 ∙ drop_at row D width lr in
    let P = take (k - width) D in
    let full : length P ≡ k - width = length-take-le (k - width) D (omega (arith, length-drop width t)) in
    let none : drop (length L) P ≡ [] = drop_of_length-le P {i = length L} (omega arith) in
    let left : y1 ≡ L =
    e2 ∙ ap (λ (d : List ℤ). L ++ drop (length L) (take (k - width) d)) rest ∙ ap (λ (d : List ℤ). L ++ d) none
    ∙ append-nil L in
    let q : width + (k - width) ≡ k = omega arith in
    let past : drop (k - width) D ≡ E = drop-drop (k - width) width t ∙ ap (λ (n : ℕ). drop n t) q in
    let both : t2 ≡ (row ++ L) ++ E = e3 ∙ cc (front, rest, left, past) ∙ sym (append_assoc row L E) in
    let lb : length (row ++ L) ≡ k = omega (arith, length-append row L) in
    let upto : take k t2 ≡ row ++ L = ap (take k) both ∙ take_at (row ++ L) E k lb in
    let from : drop k t2 ≡ E = ap (drop k) both ∙ drop_at (row ++ L) E k lb in
    let n : length t2 - k ≡ length E = omega (arith, ap length both, length-append (row ++ L) E) in
    let all : take (length t2 - k) (drop k t2) ≡ E = (λ d. take (n d) (from d)) ∙ take-length E in
    let end : drop (length t2 - k) (drop k t2) ≡ [] = (λ d. drop (n d) (from d)) ∙ drop-length E in
    let right : y2 ≡ R ++ drop (k + m) t = e4 ∙ (λ d. R ++ drop m (all d)) ∙ (λ d. R ++ drop-drop m k t d) in
    let z : returned k (length t2 - k) t2 y2 ≡ (row ++ L) ++ ((R ++ drop (k + m) t) ++ []) = cc (upto, right, end) in
    z ∙ simp (append-nil, append_assoc)

-- ---------------- how many numbers the rows of two halves have

module _ (first s last : ℕ) (left : first < s) (right : s < last) where
  pub row_room : width ≤ width * (2 * (s - first))
  row_room = omega arith

  pub left-count : width * (2 * (s - first)) - width ≡ width * row_count (s - first)
  left-count = omega arith

  pub all-count : width * (2 * (s - first)) + width * row_count (last - s) ≡ width * row_count (last - first)
  all-count = omega arith

  pub left-room : (n : ℕ) → 2 * width * last ≤ n + 2 * width * first + width → width * (2 * (s - first)) ≤ n
  left-room n h = omega arith
