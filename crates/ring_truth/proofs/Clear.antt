-- Where z is strictly outside a row's box or strip, all points that the row holds are strictly behind z in one
-- direction. Each of the eight sides is an affine measure (x, y, c or t) that z passes the least or the greatest of.
use mathlib.Core.Path.{◌≡◌, ◌∙◌, ap, subst}
use mathlib.Core.Bool.{false}
use mathlib.Core.List.{List, [], ◌∷◌}
use Prim.Native.Nat.{ℕ, ◌+◌, ◌-◌, ◌≤◌, ◌<◌}
use native.Mathlib.Omega.{arith}
use lib.Dec.{T}
use lib.IntN.{ℤ, pos, negsuc, neg_ℤ}
use lib.Signed.{lt_z, ◌<ℤ◌, lt_z_yes, <ℤ-≤ℤ_trans}
use Rattle.integers.specs.Poly.{con, :neg}
use Rattle.integers.specs.Check.{◌:<◌, ◌:=◌, hyp, mul, ◌⊞◌}
use Rattle.integers.specs.Order.{≤-<ℤ-trans}
use Rattle.rules.specs.declared.Point.{Point}
use Rattle.rules.specs.declared.Row.{Row}
use Rattle.rules.specs.Plane.{direction, c_at, t_at}
use Rattle.rules.specs.Sheet.{point}
use Rattle.rules.specs.Plain.{odd_of, crosses, segment_holds, segment_crosses}
use Rattle.rules.specs.Questions.{outside, clear_of}
use Rattle.rules.specs.Build.{holds_point}
use Rattle.visits.proofs.Tests.{either, four-either}
use Rattle.visits.proofs.Points.{t_at_e, ring_of, prove-of}
use Rattle.visits.proofs.Affine.{Affine, x-affine, y-affine, c-affine, t-affine, affine_e}
use Rattle.visits.proofs.Held.{Within, Held, held}
use Rattle.ring_truth.proofs.Behind.{Behind, run-chord, run-off}

-- a direction in which all points that have Q are strictly behind z
record Faces (Q : Point → Type 0) (z : Point) : Type 0 where
  way : Point
  behind : (p : Point) → Q p → Behind way z p

module _ {g : Point → ℤ} (a : Affine g) where
  abbrev uphill : Point
  uphill = record { x = a.α; y = a.β }

  abbrev downhill : Point
  downhill = record { x = neg_ℤ a.α; y = neg_ℤ a.β }

  -- where an affine g has less is behind, uphill; where it has more, downhill
  growing : (p z : Point) → g p <ℤ g z → Behind uphill z p
  growing p z h =
      prove-of 3 3 (λ d p z γ gp gz. (
        (gp :< gz) ∷ affine_e d.x d.y γ p gp ∷ affine_e d.x d.y γ z gz ∷ [],
        con (pos 0) :< t_at_e p d z,
        hyp 0 ⊞ mul (con (negsuc 0)) 1 ⊞ hyp 2,
      )) tt uphill p z a.γ (g p) (g z) h (a.is p) (a.is z)

  falling : (p z : Point) → g z <ℤ g p → Behind downhill z p
  falling p z h =
      subst (λ (v : ℤ). pos 0 <ℤ v)
      (ring_of 3 0 (λ d p z. t_at_e z d p := t_at_e p (record { x = :neg d.x; y = :neg d.y }) z) tt
      uphill p z) (growing z p h)

  -- z is past the least or the greatest that g has over the points that have Q: they are all behind it
  outside-faces : {Q : Point → Type 0} (lo hi : ℤ) (z : Point) → ((p : Point) → Q p → Within lo hi (g p))
      → T (outside lo hi (g z)) → Faces Q z
  outside-faces lo hi z in-range =
      either (lt_z (g z) lo) (lt_z hi (g z))
      (λ t. record { way = downhill; behind = λ p q. falling p z (<ℤ-≤ℤ_trans (lt_z_yes t) (in-range p q).0) })
      (λ t. record { way = uphill; behind = λ p q. growing p z (≤-<ℤ-trans (in-range p q).1 (lt_z_yes t)) })

-- z is strictly outside box or strip: all points that the row holds are behind it
clear-faces : (r : Row) (s u z : Point) → T (clear_of r s u z) → Faces (Held r s u) z
unfolding clear_of
clear-faces r s u z =
    four-either (outside r.xmin r.xmax z.x) (outside r.ymin r.ymax z.y)
    (outside r.cmin r.cmax (c_at s u z)) (outside r.tmin r.tmax (t_at s u z))
    (outside-faces x-affine r.xmin r.xmax z (λ p h. h.x))
    (outside-faces y-affine r.ymin r.ymax z (λ p h. h.y))
    (outside-faces (c-affine s u) r.cmin r.cmax z (λ p h. h.c))
    (outside-faces (t-affine s u) r.tmin r.tmax z (λ p h. h.t))

-- what a node that z is clear of is worth: its chord, and none of its segments holds z
pub record Alone (ps : List ℤ) (z : Point) (first last : ℕ) : Type 0 where
  pub chord : odd_of (segment_crosses ps z) first (last - first) ≡ crosses z (point ps first) (point ps last)
  pub off : (i : ℕ) → first ≤ i → i < last → segment_holds ps z i ≡ false

-- a node whose row holds its points counts as its chord alone where z is strictly outside box or strip
pub clear-alone : (ps : List ℤ) (z : Point) (r : Row) (first last : ℕ) → first ≤ last
    → ((i : ℕ) → first ≤ i → i ≤ last → T (holds_point r ps first last (point ps i)))
    → T (clear_of r (point ps first) (direction (point ps first) (point ps last)) z)
    → Alone ps z first last
clear-alone ps z r first last l holds t =
    let F = clear-faces r (point ps first) (direction (point ps first) (point ps last)) z t in
    let whole : first + (last - first) ≡ last = omega arith in
    let behind : (i : ℕ) → first ≤ i → i ≤ first + (last - first) → Behind F.way z (point ps i) =
    λ i a b. F.behind (point ps i) (held r ps first last (point ps i) (holds i a (omega arith))) in
    record {
      chord =
          run-chord ps z F.way first (last - first) behind
          ∙ ap (λ (m : ℕ). crosses z (point ps first) (point ps m)) whole;
      off = λ i a b. run-off ps z F.way first (last - first) behind i a (omega arith);
    }
