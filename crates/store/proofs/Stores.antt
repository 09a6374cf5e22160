-- A line's store: as many points as are counted, and a point behind them.
use mathlib.Core.Path.{◌≡◌, sym, ◌∙◌, ap}
use mathlib.Core.List.{List}
use Prim.Native.Nat.{ℕ}
use native.Mathlib.Omega.{arith}
use lib.IntN.{ℤ}
use lib.ListN.{length}
use Rattle.std.proofs.lemmas.Grind.{common_steps}
use Rattle.rules.specs.Sheet.{points_of}
use Rattle.desk.specs.declared.Held.{Held}
use Rattle.desk.specs.Desk.{Store}
use Rattle.desk.specs.Kept.{store_in, Stored}
use Rattle.store.specs.States.{point_left}

-- What is left has the size of what was lent.
pub point-size : (n : ℕ) (xs : List ℤ) (x y : ℤ) → length (point_left n xs x y) ≡ length xs
unfolding point_left
point-size n xs x y = grind (arith, common_steps)

module _ (h : Held) (xs : List ℤ) (s : Stored h xs) where
  -- The points of a store are those that are counted.
  pub points-counted : points_of (store_in h xs).points ≡ h.count
  points-counted =
      grind (arith, common_steps)

-- The same store is held the same way, if its table is built in both or in neither.
pub held-unique : {h h' : Held} {xs ys : List ℤ} → Stored h xs → Stored h' ys → store_in h xs ≡ store_in h' ys
    → h.built ≡ h'.built → h ≡ h'
held-unique {h} {h'} {xs} {ys} p q e built =
    let same = ap (λ (s : Store). points_of s.points) e in
    let count = sym (points-counted h xs p) ∙ same ∙ points-counted h' ys q in
    λ i. record { count = count i; over = (e i).over; built = built i }
