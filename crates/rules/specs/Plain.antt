-- docs/RULES.md, section 3: the exact tests, and the plain answers over all original segments.
use Rattle.std.specs.Prelude.{Bool, true, false, not, cond, ◌&&◌, ◌||◌, List, ℕ, zero, suc, ℤ, pos, ◌-ℤ◌, ◌*ℤ◌}
use Rattle.std.specs.Int.Signed.{le_z, lt_z}
use Rattle.rules.specs.declared.Point.{Point}
use Rattle.rules.specs.Plane.{eq_z, min_z, max_z, step, size², c_at, t_at}
use Rattle.rules.specs.Sheet.{point, points_of, segments_of}

-- ---- distance from z to the segment a to b, u its step: for t(z) <= 0, |z - start|^2 <= D^2;
-- for t(z) >= |u|^2, |z - end|^2 <= D^2; otherwise c(z)^2 <= D^2*|u|^2
unfoldable pub within : Point → Point → Point → ℤ → Bool
within z a b D =
    cond (le_z (t_at a (step a b) z) (pos 0)) (le_z (size² (step a z)) (D *ℤ D))
    (cond (le_z (size² (step a b)) (t_at a (step a b) z)) (le_z (size² (step b z)) (D *ℤ D))
    (le_z (c_at a (step a b) z *ℤ c_at a (step a b) z) (D *ℤ D *ℤ size² (step a b))))

-- ---- two segments share a point: their boxes overlap ..
abbrev pub ranges_overlap : ℤ → ℤ → ℤ → ℤ → Bool
ranges_overlap a b c d = le_z (min_z a b) (max_z c d) && le_z (min_z c d) (max_z a b)

abbrev pub boxes_overlap : Point → Point → Point → Point → Bool
boxes_overlap a b c d = ranges_overlap a.x b.x c.x d.x && ranges_overlap a.y b.y c.y d.y

-- .. and for each of the two the c of the other's ends are neither both above 0 nor both below 0
abbrev pub one_side : ℤ → ℤ → Bool
one_side p q = (lt_z (pos 0) p && lt_z (pos 0) q) || (lt_z p (pos 0) && lt_z q (pos 0))

unfoldable pub share : Point → Point → Point → Point → Bool
share a b c d =
    boxes_overlap a b c d
    && not (one_side (c_at a (step a b) c) (c_at a (step a b) d))
    && not (one_side (c_at c (step c d) a) (c_at c (step c d) b))

-- ---- z is on the segment a to b
abbrev pub range_holds : ℤ → ℤ → ℤ → Bool
range_holds a b v = le_z (min_z a b) v && le_z v (max_z a b)

unfoldable pub on_segment : Point → Point → Point → Bool
on_segment z a b = range_holds a.x b.x z.x && range_holds a.y b.y z.y && eq_z (c_at a (step a b) z) (pos 0)

-- ---- a segment crosses the ray to the right when one end (low) has y <= zy, the other (high) y > zy,
-- and (xh - xl)*(zy - yl) - (zx - xl)*(yh - yl) > 0
abbrev pub low_high : Point → Point → Point → Bool
low_high z l h = le_z l.y z.y && lt_z z.y h.y

abbrev pub side_of : Point → Point → Point → ℤ
side_of z l h = (h.x -ℤ l.x) *ℤ (z.y -ℤ l.y) -ℤ (z.x -ℤ l.x) *ℤ (h.y -ℤ l.y)

unfoldable pub crosses : Point → Point → Point → Bool
crosses z a b = (low_high z a b && lt_z (pos 0) (side_of z a b)) || (low_high z b a && lt_z (pos 0) (side_of z b a))

-- ---- p of the k numbers i, i + 1, .., joined: some has it, every one has it, an odd number of them has it
unfoldable pub joined : (Bool → Bool → Bool) → Bool → (ℕ → Bool) → ℕ → ℕ → Bool
joined join none p i zero = none
joined join none p i (suc k) = join (p i) (joined join none p (suc i) k)

abbrev pub ◌⊕◌ : Bool → Bool → Bool
true ⊕ b = not b
false ⊕ b = b

infixl 6 ◌⊕◌
abbrev pub some_of : (ℕ → Bool) → ℕ → ℕ → Bool
some_of = joined ◌||◌ false

abbrev pub every_of : (ℕ → Bool) → ℕ → ℕ → Bool
every_of = joined ◌&&◌ true

abbrev pub odd_of : (ℕ → Bool) → ℕ → ℕ → Bool
odd_of = joined ◌⊕◌ false

-- ---- the plain answers; segment i goes from point i to point i + 1
-- NEAR is yes when some segment is within D
abbrev pub segment_within : List ℤ → Point → ℤ → ℕ → Bool
segment_within ps z D i = within z (point ps i) (point ps (suc i)) D

unfoldable pub plain_near : List ℤ → Point → ℤ → Bool
plain_near ps z D = some_of (segment_within ps z D) 0 (segments_of ps)

-- MEET is yes when some segment of A and some of B share a point
abbrev pub segments_share : List ℤ → List ℤ → ℕ → ℕ → Bool
segments_share ps qs i j = share (point ps i) (point ps (suc i)) (point qs j) (point qs (suc j))

unfoldable pub plain_meet : List ℤ → List ℤ → Bool
plain_meet ps qs = some_of (λ i. some_of (segments_share ps qs i) 0 (segments_of qs)) 0 (segments_of ps)

-- IN: on-edge when z is on a segment; else inside when an odd number of segments crosses the ray
abbrev pub segment_holds : List ℤ → Point → ℕ → Bool
segment_holds ps z i = on_segment z (point ps i) (point ps (suc i))

abbrev pub segment_crosses : List ℤ → Point → ℕ → Bool
segment_crosses ps z i = crosses z (point ps i) (point ps (suc i))

unfoldable pub plain_on : List ℤ → Point → Bool
plain_on ps z = some_of (segment_holds ps z) 0 (segments_of ps)

unfoldable pub plain_inside : List ℤ → Point → Bool
plain_inside ps z = odd_of (segment_crosses ps z) 0 (segments_of ps)

-- AGREE at D is yes when each point of A is NEAR B and each point of B is NEAR A
unfoldable pub plain_agree : List ℤ → List ℤ → ℤ → Bool
plain_agree ps qs D =
    every_of (λ i. plain_near qs (point ps i) D) 0 (points_of ps)
    && every_of (λ j. plain_near ps (point qs j) D) 0 (points_of qs)
