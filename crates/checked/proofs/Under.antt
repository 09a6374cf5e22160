-- The nodes under a node, from the top: where their rows stand, that each row is one node's, and that each of the rows
-- is some node's where the rows above it are good.
use mathlib.Core.Path.{◌≡◌, refl}
use mathlib.Core.List.{List}
use mathlib.Core.Logic.{⊎_elim}
use Prim.Native.Nat.{ℕ, zero, suc, ◌+◌, ◌*◌, ◌≤◌, ◌<◌}
use native.Mathlib.Decide.{ℕ_discrete}
use native.Mathlib.Omega.{arith}
use lib.IntN.{ℤ}
use Rattle.rules.specs.declared.Node.{Node}
use Rattle.rules.specs.Tree.{row_at, right_row}
use Rattle.rules.specs.Questions.{root, split_in}
use Rattle.visits.specs.Nodes.{Inner, Fits, RowGood}
use Rattle.visits.specs.Reached.{left_half, right_half, Reached, at-root, to-left, to-right}
use Rattle.visits.proofs.Nodes.{good-inner, fits-row, fits-left, fits-right}
use Rattle.table_truth.proofs.Rows.{≤-or->, leaf-or-inner}

module _ (ps t : List ℤ) where
  abbrev pub More : Node → Type 0
  More n = n.first + 1 < n.last

  pub data Under : Node → Node → Type 0 where
    here : {n : Node} → Under n n
    on-left : {n m : Node} → RowGood ps t n → More n → Under (left_half t n) m → Under n m
    on-right : {n m : Node} → RowGood ps t n → More n → Under (right_half t n) m → Under n m

  abbrev split : Node → ℕ
  split n = split_in (row_at t n.row)

  inner : (n : Node) → RowGood ps t n → More n → Inner n.first (split n) n.last
  inner n g m = good-inner ps t n g m

  -- ---- a node is reached exactly where it is under the root
  pub under-reached : {n m : Node} → Reached ps t n → Under n m → Reached ps t m
  under-reached h here = h
  under-reached h (on-left g more u) = under-reached (to-left h g more) u
  under-reached h (on-right g more u) = under-reached (to-right h g more) u

  -- a half of a node under another is under that
  under_left : {n m : Node} → Under n m → RowGood ps t m → More m → Under n (left_half t m)
  under_left here g more = on-left g more here
  under_left (on-left g' more' u) g more = on-left g' more' (under_left u g more)
  under_left (on-right g' more' u) g more = on-right g' more' (under_left u g more)

  under-right : {n m : Node} → Under n m → RowGood ps t m → More m → Under n (right_half t m)
  under-right here g more = on-right g more here
  under-right (on-left g' more' u) g more = on-left g' more' (under-right u g more)
  under-right (on-right g' more' u) g more = on-right g' more' (under-right u g more)

  pub reached-under : {m : Node} → Reached ps t m → Under (root ps) m
  reached-under at-root = here
  reached-under (to-left h g more) = under_left (reached-under h) g more
  reached-under (to-right h g more) = under-right (reached-under h) g more

  -- ---- the rows under a node stand from its own on ..
  pub under-from : {n m : Node} → Under n m → n.row ≤ m.row
  under-from here = omega arith
  under-from (on-left g more u) = let l = under-from u in omega arith
  under-from (on-right g more u) = let l = under-from u in omega arith

  -- .. and those of its left half before those of its right half
  pub under-fits : {rows : ℕ} {n m : Node} → Fits rows n → Under n m → Fits rows m
  under-fits f here = f
  under-fits {n = n} f (on-left g more u) = under-fits (fits-left f (inner n g more)) u
  under-fits {n = n} f (on-right g more u) = under-fits (fits-right f (inner n g more)) u

  pub left-before : (n : Node) {m : Node} → RowGood ps t n → More n → Under (left_half t n) m
      → m.row < right_row n.row n.first (split n)
  left-before n g more u =
      let i = inner n g more in
      fits-row (under-fits (record { some-segment = i.above; rows_in = omega (arith, i.above) }) u)

  -- ---- each row is one node's
  pub under-once : {n a b : Node} → Under n a → Under n b → a.row ≡ b.row → a ≡ b
  under-once here here e = refl
  under-once here (on-left g more v) e = let l = under-from v in absurd (omega arith)
  under-once {n} here (on-right g more v) e =
      let l = under-from v in let i = inner n g more in absurd (omega (arith, i.above))
  under-once (on-left g more u) here e = let l = under-from u in absurd (omega arith)
  under-once (on-left g more u) (on-left g' more' v) e = under-once u v e
  under-once {n} (on-left g more u) (on-right g' more' v) e =
      let l = left-before n g more u in let k = under-from v in absurd (omega arith)
  under-once {n} (on-right g more u) here e =
      let l = under-from u in let i = inner n g more in absurd (omega (arith, i.above))
  under-once {n} (on-right g more u) (on-left g' more' v) e =
      let l = left-before n g' more' v in let k = under-from u in absurd (omega arith)
  under-once (on-right g more u) (on-right g' more' v) e = under-once u v e

  -- ---- each of a node's 2k - 1 rows is the row of a node under it, where the rows before it are good
  abbrev At : Node → ℕ → Type 0
  At n k = (m : Node) × Under n m × (m.row ≡ k)

  pub under-every : (f : ℕ) (n : Node) (k : ℕ) → n.first < n.last → n.last ≤ f + n.first → n.row ≤ k
      → k + 2 * n.first + 2 ≤ n.row + 2 * n.last → ((m : Node) → Under n m → m.row < k → RowGood ps t m)
      → At n k
  under-every zero n k l e a b good = absurd (omega arith)
  under-every (suc f) n k l e a b good =
      elim (ℕ_discrete n.row k) [
        | yes q ↦ (n, here, q)
        | no q ↦
            let g = good n here (omega arith) in
            ⊎_elim (λ h. absurd (omega arith))
            (λ more.
            let i = inner n g more in
            ⊎_elim
            (λ r.
            let x = under-every f (right_half t n) k i.below (omega (arith, i.above)) r (omega (arith, i.above))
            (λ m u. good m (on-right g more u)) in (x.0, on-right {m = x.0} g more x.1, x.2))
            (λ r.
            let x = under-every f (left_half t n) k i.above (omega (arith, i.below)) (omega arith)
            (omega (arith, i.above)) (λ m u. good m (on-left g more u)) in
            (x.0, on-left {m = x.0} g more x.1, x.2))
            (≤-or-> (right_row n.row n.first (split n)) k))
            (leaf-or-inner n.first n.last)
      ]
