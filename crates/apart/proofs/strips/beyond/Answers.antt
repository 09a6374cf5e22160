-- `beyond` adds the greater parts of t, then the lesser ones; a part is a product, and each step fits 64 bits.
use mathlib.Core.Path.{◌≡◌, sym, ◌∙◌}
use mathlib.Core.Bool.{◌||◌}
use Prim.Native.Nat.{ℕ, ◌*◌, ◌^◌, ◌<◌}
use lib.IntN.{ℤ, ◌+ℤ◌, ◌-ℤ◌, ◌*ℤ◌}
use lib.Signed.{mag, lt_z}
use mir.Syntax.{w64}
use mir.Val.{SFits, to_z, of_z}
use mir.Facts.{to_z-of_z}
use Rattle.integers.specs.Laws.{cond_ind}
use Rattle.integers.specs.Check.{◌:+◌, ◌:*◌, ◌:-◌}
use Rattle.integers.specs.Machine.{MExpr, rd, ◌⊖◌, ◌⊗◌, in-abs, result}
use Rattle.integers.proofs.Worth.{safe-step, reads}
use Rattle.integers.specs.Order.{min_z, max_z}
use Rattle.integers.specs.Range.{Abs≤, abs-at, fits-of, nil, ◌&◌}
use Rattle.integers.proofs.Bounded.{within}
use Rattle.rules.specs.declared.Point.{Point}
use Rattle.rules.specs.declared.Row.{Row}
use Rattle.rules.specs.Sheet.{limit}
use Rattle.std.specs.Int.{int_min, int_max}
use Rattle.limits.specs.Small.{OnSheet, Small}
use Rattle.apart.specs.Placed.{BoxOnSheet}
use Rattle.line.proofs.Picks.{min-is, max-is}
use Rattle.apart.proofs.Corners.{west, east, south, north, least, by_parts}
use Rattle.apart.proofs.strips.beyond.Goals as goal

-- ---------------- the parts
-- their steps, each stored in 64 bits
abbrev difference : MExpr → MExpr → MExpr
difference e s = rd w64 (e ⊖ s)

abbrev part : MExpr → MExpr → MExpr → MExpr
part v e s = rd w64 (v ⊗ difference e s)

-- what is stored in 64 bits, read back, and a part as the machine has it
abbrev back : ℤ → ℤ
back z = to_z w64 (of_z w64 z)

abbrev held : ℤ → ℤ → ℤ → ℤ
held v e s = back (back v *ℤ back (back e -ℤ back s))

sub-fits : {e s : ℤ} → Abs≤ limit e → Abs≤ limit s → SFits w64 (back e -ℤ back s)
sub-fits k l = safe-step 2 difference 0 (in-abs {w = w64} k tt & in-abs {w = w64} l tt & nil) tt

mul-fits : {v e s : ℤ} → Abs≤ (2 * limit) v → Abs≤ limit e → Abs≤ limit s
    → SFits w64 (back v *ℤ back (back e -ℤ back s))
mul-fits h k l = safe-step 3 part 1 (in-abs {w = w64} h tt & in-abs {w = w64} k tt & in-abs {w = w64} l tt & nil) tt

-- ---------------- the sums
-- the size of a part
abbrev largest : ℕ
largest = 2 * limit * (2 * limit)

-- a, which the machine has, is x, which is no larger than a part
record Is (a x : ℤ) : Type 0 where
  same : a ≡ x
  small : Abs≤ largest x

is-part : {v e s : ℤ} → Abs≤ (2 * limit) v → Abs≤ limit e → Abs≤ limit s → Is (held v e s) (v *ℤ (e -ℤ s))
is-part h k l = record {
  same = reads 3 part (in-abs {w = w64} h tt & in-abs {w = w64} k tt & in-abs {w = w64} l tt & nil) tt;
  small = within 3 (λ v e s. v :* (e :- s)) (h & k & l & nil);
}

-- what m picks of two is no larger either
abbrev Picks : (ℤ → ℤ → ℤ) → Type 0
Picks m = (x y : ℤ) → Abs≤ largest x → Abs≤ largest y → Abs≤ largest (m x y)

max-picks : Picks max_z
max-picks x y h k = cond_ind (lt_z x y) y x (Abs≤ largest) (λ _. k) (λ _. h)

min-picks : Picks min_z
min-picks x y h k = cond_ind (lt_z x y) x y (Abs≤ largest) (λ _. h) (λ _. k)

is-picked : {a b r x y : ℤ} (m : ℤ → ℤ → ℤ) → Picks m → Is a x → Is b y → mag r < 2 ^ 63 → r ≡ m a b
    → Is (back r) (m x y)
is-picked {x} {y} m p h k f e = record {
  same = result w64 f (e ∙ (λ d. m (h.same d) (k.same d)));
  small = p x y h.small k.small;
}

-- the sum of a and b fits, and is x
record Adds (a b x : ℤ) : Type 0 where
  fit : SFits w64 (a +ℤ b)
  is : back (a +ℤ b) ≡ x

adds : {a b x y : ℤ} → Is a x → Is b y → Adds a b (x +ℤ y)
adds h k =
    let small = within 2 (λ x y. x :+ y) (h.small & k.small & nil) in
    let f = fits-of w64 (abs-at (sym (λ d. h.same d +ℤ k.same d)) small) tt in
    record { fit = f; is = to_z-of_z f ∙ (λ d. h.same d +ℤ k.same d) }

-- what two calls picked of the parts in x and of those in y, as std picks and as the rules do
module _ (n m : ℤ → ℤ → ℤ) (is : (x y : ℤ) → n x y ≡ m x y) (p : Picks m) where
  adds-picked : {s v : Point} {q : Row} {r r' : ℤ} → OnSheet s × Small v × BoxOnSheet q
      → mag r < 2 ^ 63 → r ≡ n (held v.x q.xmin s.x) (held v.x q.xmax s.x)
      → mag r' < 2 ^ 63 → r' ≡ n (held v.y q.ymin s.y) (held v.y q.ymax s.y)
      → Adds (back r) (back r') (m (west s v q) (east s v q) +ℤ m (south s v q) (north s v q))
  adds-picked h f e f' e' =
      let s = h.0 in
      let v = h.1 in
      let q = h.2 in
      adds (is-picked m p (is-part v.x-in q.xmin-in s.x-in) (is-part v.x-in q.xmax-in s.x-in) f (e ∙ is _ _))
      (is-picked m p (is-part v.y-in q.ymin-in s.y-in) (is-part v.y-in q.ymax-in s.y-in) f' (e' ∙ is _ _))

-- ---------------- the products fit
pub overflow_mul-west : goal.overflow_mul-west
overflow_mul-west c = search (mul-fits, c.requires)

pub overflow_mul-east : goal.overflow_mul-east
overflow_mul-east c = search (mul-fits, c.requires)

pub overflow_mul-south : goal.overflow_mul-south
overflow_mul-south c = search (mul-fits, c.requires)

pub overflow_sub-north : goal.overflow_sub-north
overflow_sub-north c = search (sub-fits, c.requires)

pub overflow_mul-north : goal.overflow_mul-north
overflow_mul-north c = search (mul-fits, c.requires)

-- ---------------- the sums, and the tests
pub overflow_add-max : goal.overflow_add-max
overflow_add-max c =
    (adds-picked int_max max_z max-is max-picks c.requires c.max.type_inv c.max.ensures.value
    c.max-2.type_inv c.max-2.ensures.value).fit

pub overflow_add-result : goal.overflow_add-result
overflow_add-result c =
    (adds-picked int_min min_z min-is min-picks c.requires c.min.type_inv c.min.ensures.value
    c.min-else-max-lo.type_inv c.min-else-max-lo.ensures.value).fit

pub returns-then-max-lo : goal.returns-then-max-lo
returns-then-max-lo c =
    let most = adds-picked int_max max_z max-is max-picks c.requires c.max.type_inv c.max.ensures.value
    c.max-2.type_inv c.max-2.ensures.value in
    let a = c.args in
    let e = sym (λ d. lt_z (most.is d) (to_z-of_z c.ranges.lo d)) ∙ c.if-max-lo.true in
    c.if-max-lo.true
    ∙ sym (λ d. e d || lt_z a.hi (least a.s a.v a.other))
    ∙ by_parts a.s a.v a.other a.lo a.hi

pub returns-else-max-lo : goal.returns-else-max-lo
returns-else-max-lo c =
    let most = adds-picked int_max max_z max-is max-picks c.requires c.max.type_inv c.max.ensures.value
    c.max-2.type_inv c.max-2.ensures.value in
    let fewest = adds-picked int_min min_z min-is min-picks c.requires c.min.type_inv c.min.ensures.value
    c.min-else-max-lo.type_inv c.min-else-max-lo.ensures.value in
    let a = c.args in
    let e = sym (λ d. lt_z (most.is d) (to_z-of_z c.ranges.lo d)) ∙ c.if-max-lo.false in
    (λ d. lt_z (to_z-of_z c.ranges.hi d) (fewest.is d))
    ∙ sym (λ d. e d || lt_z a.hi (least a.s a.v a.other))
    ∙ by_parts a.s a.v a.other a.lo a.hi
