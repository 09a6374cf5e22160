-- How large a step, c, t and |u|^2 can be between points whose coordinates are at most m, and so on the sheet.
use Prim.Native.Nat.{ℕ, ◌+◌, ◌*◌, ◌<◌}
use native.Mathlib.Omega.{arith}
use lib.IntN.{pos}
use Rattle.integers.specs.Laws.{cond_ind}
use Rattle.integers.specs.Poly.{◌:+◌, ◌:*◌, ◌:-◌}
use Rattle.integers.specs.Range.{Abs≤, nil, ◌&◌}
use Rattle.integers.proofs.Bounded.{within}
use Rattle.rules.specs.declared.Point.{Point}
use Rattle.rules.specs.Plane.{same_point, step, direction, size², c_at, t_at}
use Rattle.rules.specs.Sheet.{limit}
use Rattle.limits.specs.Small.{Within, OnSheet, Small, widest}

-- |c| and |t|
abbrev pub spread : ℕ → ℕ
spread m = (m + m) * (m + m) + (m + m) * (m + m)

module _ {m : ℕ} where
  -- a step has coordinates of at most twice as much
  pub step-within : {a b : Point} → Within m a → Within m b → Within (m + m) (step a b)
  step-within h k = record {
    x-in = within 2 (λ b a. b :- a) (k.x-in & h.x-in & nil);
    y-in = within 2 (λ b a. b :- a) (k.y-in & h.y-in & nil);
  }

  -- and so has a direction: it is a step, or (1, 0)
  pub direction-within : 0 < m → {a b : Point} → Within m a → Within m b → Within (m + m) (direction a b)
  unfolding direction
  direction-within some {a} {b} h k =
      cond_ind (same_point a b) (record { x = pos 1; y = pos 0 }) (step a b) (Within (m + m))
      (λ t. record { x-in = record { abs = omega arith }; y-in = record { abs = omega arith } })
      (λ t. step-within h k)

  -- c and t are sums of two products of such numbers
  pub c-within : {s u p : Point} → Within m s → Within (m + m) u → Within m p → Abs≤ (spread m) (c_at s u p)
  c-within h k l =
      within 6 (λ ux uy sx sy px py. ux :* (py :- sy) :- uy :* (px :- sx))
      (k.x-in & k.y-in & h.x-in & h.y-in & l.x-in & l.y-in & nil)

  pub t_within : {s u p : Point} → Within m s → Within (m + m) u → Within m p → Abs≤ (spread m) (t_at s u p)
  t_within h k l =
      within 6 (λ ux uy sx sy px py. ux :* (px :- sx) :+ uy :* (py :- sy))
      (k.x-in & k.y-in & h.x-in & h.y-in & l.x-in & l.y-in & nil)

-- ---------------- on the sheet
pub step_small : {a b : Point} → OnSheet a → OnSheet b → Small (step a b)
step_small h k = step-within h k

pub direction-small : {a b : Point} → OnSheet a → OnSheet b → Small (direction a b)
direction-small h k = direction-within {m = limit} (omega arith) h k

pub c-wide : {s u p : Point} → OnSheet s → Small u → OnSheet p → Abs≤ widest (c_at s u p)
c-wide h k l = c-within {m = limit} h k l

pub t-wide : {s u p : Point} → OnSheet s → Small u → OnSheet p → Abs≤ widest (t_at s u p)
t-wide h k l = t_within {m = limit} h k l

pub size-wide : {u : Point} → Small u → Abs≤ widest (size² u)
size-wide k = within 2 (λ x y. x :* x :+ y :* y) (k.x-in & k.y-in & nil)
