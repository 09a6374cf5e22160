-- The walks that the questions ask for are settled; so is AGREE's row of NEAR walks, whose visits are added.
use mathlib.Core.Path.{◌≡◌, refl}
use mathlib.Core.Bool.{Bool, true, false, cond}
use mathlib.Core.List.{List}
use Prim.Native.Nat.{ℕ, zero, suc, ◌+◌, ◌*◌, ◌≤◌}
use native.Mathlib.Nat.{suc-mul, sub-zero, le_of_eq}
use native.Mathlib.Omega.{arith}
use lib.IntN.{ℤ}
use Rattle.rules.specs.declared.Line.{Line}
use Rattle.rules.specs.declared.Line.TheVariants.{LineA, LineB}
use Rattle.rules.specs.declared.Point.{Point}
use Rattle.rules.specs.declared.Tally.{Tally}
use Rattle.rules.specs.Sheet.{point, points_of, segments_of, on_sheet}
use Rattle.rules.specs.Walk.{Walked, spent}
use Rattle.rules.specs.Questions.{root, Nothing, near_walk, in_walk, meet_walk}
use Rattle.rules.specs.Questions.{Asked, all_near, not_near, unasked, faulted, on_near, ask_all, on_all_near, agree_walk}
use Rattle.allowance.specs.Enough.{point_enough, pair_enough, agree_enough}
use Rattle.allowance.proofs.Needs.{Needs, Settled, at-once-settled, loosely-settled, read-settled, then-settled}
use Rattle.allowance.proofs.Walks.{Outcome, hit, through, fault, told, walk-settled}
use Rattle.allowance.proofs.Visits.{near-halves, in_halves, meet-halves}

-- a NEAR walk is settled by 2n - 1 visits
pub near-settled : (l : Line) (ps t : List ℤ) (z : Point) (D : ℤ) → 1 ≤ segments_of ps
    → Settled spent told (near_walk l ps t z D) (point_enough ps)
near-settled l ps t z D h =
    loosely-settled (walk-settled (near-halves l ps t z D) (segments_of ps) (root ps) tt (omega arith)) (omega arith)

-- an IN walk too
pub in-settled : (ps t : List ℤ) (z : Point) → 1 ≤ segments_of ps → Settled spent told (in_walk ps t z) (point_enough ps)
in-settled ps t z h =
    loosely-settled (walk-settled (in_halves ps t z) (segments_of ps) (root ps) false (omega arith)) (omega arith)

-- a MEET walk by 2nm - 1
pub meet-settled : (ps t qs t' : List ℤ) → 1 ≤ segments_of ps → 1 ≤ segments_of qs
    → Settled spent told (meet_walk ps t qs t') (pair_enough ps qs)
meet-settled ps t qs t' h k =
    loosely-settled
    (walk-settled (meet-halves ps t qs t') (segments_of ps + segments_of qs) (record { a = root ps; b = root qs }) tt
    (omega arith)) (le_of_eq (simp sub-zero))

-- what asking points comes to, but for its visits
pub data Findings : Type 0 where
  every_near : Findings
  far_off : Line → ℕ → Findings
  faulty : ℕ → Line → ℕ → Findings

abbrev pub found : Findings → Tally → Asked
found every_near y = all_near y
found (far_off l i) y = not_near l i y
found (faulty number line place) y =
    faulted (record { number = number; line = line; place = place; visits = y.visits })

-- points asked one after the other: the next ones are asked where this one is near
point-settled : (l : Line) (i : ℕ) {go : Tally → Walked Nothing} {rest : Tally → Asked} {a b : ℕ}
    → Settled spent told go a → Settled unasked found rest b
    → Settled unasked found (λ y. on_near l i (go y) rest) (a + b)
point-settled l i {go} {rest} {a} {b} w next = join w.outcome w.exact
  where
    join : (o : Outcome Nothing) → Needs spent go (told o) w.needs
        → Settled unasked found (λ y. on_near l i (go y) rest) (a + b)
    join hit e = then-settled (λ m. on_near l i m rest) refl e (λ y. refl) w.bounded next
    join (through s) e = read-settled (λ m. on_near l i m rest) refl e (far_off l i) (λ y. refl) (omega arith)
    join (fault number line place) e =
        read-settled (λ m. on_near l i m rest) refl e (faulty number line place) (λ y. refl) (omega arith)

-- what goes by a test is settled where both ways are
cond-settled : (b : Bool) {go go' : Tally → Asked} {most : ℕ} → Settled unasked found go most
    → Settled unasked found go' most → Settled unasked found (λ y. cond b (go y) (go' y)) most
cond-settled true w w' = w
cond-settled false w w' = w'

-- k points against a line of m segments are settled by k*(2m - 1) visits
ask-settled : (l : Line) (ps : List ℤ) (m : Line) (qs t : List ℤ) (D : ℤ) (i k : ℕ) → 1 ≤ segments_of qs
    → Settled unasked found (ask_all l ps m qs t D i k) (k * point_enough qs)
unfolding ask_all
ask-settled l ps m qs t D i zero h = at-once-settled every_near
ask-settled l ps m qs t D i (suc k) h =
    cond-settled (on_sheet (point ps i))
    (loosely-settled (point-settled l i (near-settled m qs t (point ps i) D h) (ask-settled l ps m qs t D (suc i) k h))
    (omega (arith, suc-mul k (point_enough qs))))
    (at-once-settled (faulty 8 l i))

-- the second line's points are asked where every one of the first line's is near
both-asked : {go rest : Tally → Asked} {a b : ℕ} → Settled unasked found go a → Settled unasked found rest b
    → Settled unasked found (λ y. on_all_near (go y) rest) (a + b)
both-asked {go} {rest} {a} {b} w next = join w.outcome w.exact
  where
    join : (o : Findings) → Needs unasked go (found o) w.needs
        → Settled unasked found (λ y. on_all_near (go y) rest) (a + b)
    join every_near e = then-settled (λ m. on_all_near m rest) refl e (λ y. refl) w.bounded next
    join (far_off l i) e = read-settled (λ m. on_all_near m rest) refl e (far_off l i) (λ y. refl) (omega arith)
    join (faulty number line place) e =
        read-settled (λ m. on_all_near m rest) refl e (faulty number line place) (λ y. refl) (omega arith)

-- AGREE is settled by (n + 1)*(2m - 1) + (m + 1)*(2n - 1) visits
pub agree-settled : (ps t qs t' : List ℤ) (D : ℤ) → 1 ≤ segments_of ps → 1 ≤ segments_of qs
    → Settled unasked found (agree_walk ps t qs t' D) (agree_enough ps qs)
unfolding agree_walk
agree-settled ps t qs t' D h k =
    loosely-settled
    (both-asked (ask-settled LineA ps LineB qs t' D 0 (points_of ps) k)
    (ask-settled LineB qs LineA ps t D 0 (points_of qs) h))
    (le_of_eq (λ i. one_more ps h i * point_enough qs + one_more qs k i * point_enough ps))
  where
    -- points are segments and one
    one_more : (ps : List ℤ) → 1 ≤ segments_of ps → points_of ps ≡ segments_of ps + 1
    one_more ps h = omega arith
