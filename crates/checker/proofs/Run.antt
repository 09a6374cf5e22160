-- A row whose strip holds 0 holds its run exactly where it holds both ends, by the box and by the t of the last point,
-- and each point between them.
use mathlib.Core.Path.{◌≡◌, sym, subst}
use mathlib.Core.Bool.{Bool, false, ◌&&◌}
use mathlib.Core.List.{List}
use Prim.Native.Nat.{ℕ, suc, ◌-◌, ◌≤◌, ◌<◌}
use native.Mathlib.Decide.{ℕ_discrete}
use native.Mathlib.Omega.{arith}
use lib.Dec.{T, T_not}
use lib.IntN.{ℤ, pos}
use lib.Signed.{le_z, le_z_yes}
use mir.Facts.{and_yes, yes_and}
use Rattle.integers.specs.Order.{≤ℤ-trans, T_false, no-T}
use Rattle.rules.specs.declared.Point.{Point}
use Rattle.rules.specs.declared.Row.{Row}
use Rattle.rules.specs.Plane.{step, direction, size²}
use Rattle.rules.specs.Sheet.{point}
use Rattle.rules.specs.Tree.{node_c, node_t}
use Rattle.rules.specs.Build.{holds_number, strip_holds, box_holds, holds_point, row_holds}
use Rattle.visits.specs.Nodes.{HoldsStart}
use Rattle.visits.proofs.Counts.{every_of-read, every_of-make}
use Rattle.visits.proofs.Held.{Within, number-held, held_number}
use Rattle.visits.proofs.Terms.{c-start, t-start}
use Rattle.run.proofs.Ends.{c-end, t-end, square}

module _ (ps : List ℤ) (r : Row) (first last : ℕ) where
  abbrev s : Point
  s = point ps first

  abbrev e : Point
  e = point ps last

  abbrev pub held : ℕ → Bool
  held i = holds_point r ps first last (point ps i)

  abbrev strip : Point → Bool
  strip p = strip_holds r (node_c ps first last p) (node_t ps first last p)

  -- the box of both ends, and the t of the last point
  abbrev pub ends : Bool
  ends = le_z (size² (step s e)) r.tmax && box_holds r s && box_holds r e

  -- ---------------- a point of the run that is not held
  pub not-held : (i : ℕ) → first ≤ i → i ≤ last → held i ≡ false → row_holds ps r first last ≡ false
  unfolding row_holds
  not-held i a b n =
      no-T (row_holds ps r first last) λ h.
      T_not (held i) (T_false n) (every_of-read held first (suc (last - first)) h i a (omega arith))

  module _ (zero : HoldsStart r) where
    -- ---------------- the ends
    make : (p : Point) → Within r.cmin r.cmax (node_c ps first last p)
        → Within r.tmin r.tmax (node_t ps first last p) → T (box_holds r p) → T (holds_point r ps first last p)
    unfolding holds_point
    make p c t b =
        let held_by = yes_and (holds_number r.cmin r.cmax (node_c ps first last p))
        (holds_number r.tmin r.tmax (node_t ps first last p)) (held_number c) (held_number t) in
        yes_and (strip p) (box_holds r p) held_by b

    c-zero : Within r.cmin r.cmax (pos 0)
    c-zero = (zero.cmin-low, zero.cmax-high)

    ends_held : T ends → T (held first) × T (held last)
    ends_held h =
        let u = direction s e in
        let q = and_yes (le_z (size² (step s e)) r.tmax && box_holds r s) (box_holds r e) h in
        let k = and_yes (le_z (size² (step s e)) r.tmax) (box_holds r s) q.0 in
        let t : Within r.tmin r.tmax (size² (step s e)) =
        (≤ℤ-trans zero.tmin-low (square s e), le_z_yes k.0) in (
          make s (subst (Within r.cmin r.cmax) (sym (c-start s u)) c-zero)
              (subst (Within r.tmin r.tmax) (sym (t-start s u)) (zero.tmin-low, zero.tmax-high)) k.1,
          make e (subst (Within r.cmin r.cmax) (sym (c-end s e)) c-zero)
              (subst (Within r.tmin r.tmax) (sym (t-end s e)) t) q.1,
        )

    -- ends that are not held are points that are not
    pub ends-not-held : first ≤ last → ends ≡ false → row_holds ps r first last ≡ false
    unfolding row_holds holds_point
    ends-not-held l n =
        no-T (row_holds ps r first last) λ h.
        let at : (i : ℕ) → first ≤ i → i ≤ last → T (held i) =
        λ i a b. every_of-read held first (suc (last - first)) h i a (omega arith) in
        let a = and_yes (strip s) (box_holds r s) (at first (omega arith) l) in
        let b = and_yes (strip e) (box_holds r e) (at last l (omega arith)) in
        let t = and_yes (holds_number r.cmin r.cmax (node_c ps first last e))
        (holds_number r.tmin r.tmax (node_t ps first last e)) b.0 in
        let top = (subst (Within r.tmin r.tmax) (t-end s e)
        (number-held r.tmin r.tmax (node_t ps first last e) t.1)).1 in
        T_not ends (T_false n)
        (yes_and (le_z (size² (step s e)) r.tmax && box_holds r s) (box_holds r e)
        (yes_and (le_z (size² (step s e)) r.tmax) (box_holds r s) top.le a.1) b.1)

    -- ---------------- both ends and all between
    pub all_held : T ends → ((i : ℕ) → first < i → i < last → T (held i)) → T (row_holds ps r first last)
    unfolding row_holds
    all_held h between =
        let both = ends_held h in
        every_of-make held first (suc (last - first)) λ i a b.
        elim (ℕ_discrete i first) [
          | yes q ↦ subst (λ (j : ℕ). T (held j)) (sym q) both.0
          | no q ↦ elim (ℕ_discrete i last) [
            | yes z ↦ subst (λ (j : ℕ). T (held j)) (sym z) both.1
            | no z ↦ between i (omega arith) (omega arith)
          ]
        ]
