-- docs/RULES.md, section 4: what one visit of NEAR, MEET and IN does, AGREE as a row of NEAR walks, and what
-- each question replies, refusals first.
use Rattle.std.specs.Prelude.{Bool, false, cond, ◌&&◌, ◌||◌, List, [], ◌∷◌, ◌++◌, ℕ, zero, suc, ◌+◌, ◌-◌, leb, ℤ, pos, nat_abs, ◌+ℤ◌, ◌-ℤ◌, ◌*ℤ◌}
use Rattle.std.specs.Int.Signed.{lt_z}
use Rattle.rules.specs.declared.Line.{Line}
use Rattle.rules.specs.declared.Line.TheVariants.{LineA, LineB}
use Rattle.rules.specs.declared.Node.{Node}
use Rattle.rules.specs.declared.Pair.{Pair}
use Rattle.rules.specs.declared.Refusal.{Refusal}
use Rattle.rules.specs.declared.Tally.{Tally}
use Rattle.rules.specs.declared.Point.{Point}
use Rattle.rules.specs.Plane.{direction, size², c_at, t_at}
use Rattle.rules.specs.Sheet.{point, points_of, segments_of, on_sheet}
use Rattle.rules.specs.declared.Row.{Row}
use Rattle.rules.specs.Tree.{row_at, is_leaf, left_row, right_row}
use Rattle.rules.specs.Plain.{within, share, on_segment, crosses, ◌⊕◌}
use Rattle.rules.specs.declared.Word.TheVariants.{YES, NO, INSIDE, OUTSIDE, ON, UNDECIDED}
use Rattle.rules.specs.declared.Reply.{Reply}
use Rattle.rules.specs.Reply.{Check, says, refuses, disagrees, first_refusal, or_refused}
use Rattle.rules.specs.Rows.{good, length_checks, distance_check, asked_check, ring_check}
use Rattle.rules.specs.Walk.{Visit, refuse, finish, pass, halve, Walked, ended, over, spent, refused, fresh, walk}

-- ---- a node: its row, and the range handed down; the root is row 0 and covers 0 to n
abbrev pub root : List ℤ → Node
root ps = record { row = 0; first = 0; last = segments_of ps }

abbrev pub left_of : Node → ℕ → Node
left_of n split = record { row = left_row n.row; first = n.first; last = split }

abbrev pub right_of : Node → ℕ → Node
right_of n split = record { row = right_row n.row n.first split; first = split; last = n.last }

abbrev pub leaf : Node → Bool
leaf n = is_leaf n.first n.last

abbrev pub size : Node → ℕ
size n = n.last - n.first

-- the count of NEAR and MEET, which count nothing
abbrev pub Nothing : Type 0
Nothing = Unit {0}

abbrev pub split_in : Row → ℕ
split_in r = nat_abs r.split

-- a row read at a visit is bad: 10, at the row
abbrev pub read_row : {S N : Type 0} → Line → List ℤ → List ℤ → Node → (Row → Visit S N) → Visit S N
read_row l ps t n go =
    cond (good ps (row_at t n.row) n.first n.last) (go (row_at t n.row)) (refuse 10 l n.row)

-- the first point s of a node, and its direction u
abbrev pub start_of : List ℤ → Node → Point
start_of ps n = point ps n.first

abbrev pub end_of : List ℤ → Node → Point
end_of ps n = point ps n.last

abbrev pub heading_of : List ℤ → Node → Point
heading_of ps n = direction (start_of ps n) (end_of ps n)

-- ---- NEAR: with gc and gt the shortfalls of c(z), t(z) outside the strip (0 inside) ..
unfoldable pub shortfall : ℤ → ℤ → ℤ → ℤ
shortfall lo hi v = cond (lt_z v lo) (lo -ℤ v) (cond (lt_z hi v) (v -ℤ hi) (pos 0))

-- .. the node is dismissed when gc^2 + gt^2 > D^2*|u|^2
unfoldable pub far_from : Row → Point → Point → Point → ℤ → Bool
far_from r s u z D =
    let gc = shortfall r.cmin r.cmax (c_at s u z) in
    let gt = shortfall r.tmin r.tmax (t_at s u z) in lt_z (D *ℤ D *ℤ size² u) (gc *ℤ gc +ℤ gt *ℤ gt)

-- a leaf left over gets the exact test; left child first; a yes ends the walk
unfoldable pub near_visit : Line → List ℤ → List ℤ → Point → ℤ → Node → Visit Nothing Node
near_visit l ps t z D n =
    read_row l ps t n λ r.
    cond (far_from r (start_of ps n) (heading_of ps n) z D) (pass (λ k. k))
    (cond (leaf n) (cond (within z (start_of ps n) (end_of ps n) D) finish (pass (λ k. k)))
    (halve (left_of n (split_in r)) (right_of n (split_in r))))

abbrev pub near_walk : Line → List ℤ → List ℤ → Point → ℤ → Tally → Walked Nothing
near_walk l ps t z D y = walk (near_visit l ps t z D) (segments_of ps) (root ps) tt y

-- Undecided has the allowance as its visits
abbrev pub yes_or_no : ℕ → Walked Nothing → Reply
yes_or_no allowance (ended y) = says YES y.visits
yes_or_no allowance (over k y) = says NO y.visits
yes_or_no allowance spent = says UNDECIDED allowance
yes_or_no allowance (refused r) = refuses r

-- 1, 2, 3, 6, 7, 8, then the walk
abbrev pub near_checks : List ℤ → List ℤ → Point → ℤ → List Check
near_checks ps t z D = length_checks LineA ps t ++ distance_check D ∷ asked_check z ∷ []

unfoldable pub near_reply : List ℤ → List ℤ → Point → ℤ → ℕ → Reply
near_reply ps t z D allowance =
    or_refused (first_refusal (near_checks ps t z D))
    (yes_or_no allowance (near_walk LineA ps t z D (fresh allowance)))

-- ---- MEET: a pair of nodes, one of each line
-- boxes are disjoint
abbrev pub boxes_apart : Row → Row → Bool
boxes_apart r q =
    lt_z r.xmax q.xmin || lt_z q.xmax r.xmin || lt_z r.ymax q.ymin || lt_z q.ymax r.ymin

abbrev pub at_corners : Row → (Point → Bool) → Bool
at_corners r p =
    p (record { x = r.xmin; y = r.ymin }) && p (record { x = r.xmin; y = r.ymax })
    && p (record { x = r.xmax; y = r.ymin }) && p (record { x = r.xmax; y = r.ymax })

-- f is below its least at all four box corners of the other, or above its greatest at all four
unfoldable pub beyond_corners : (Point → ℤ) → ℤ → ℤ → Row → Bool
beyond_corners f lo hi q = at_corners q (λ p. lt_z (f p) lo) || at_corners q (λ p. lt_z hi (f p))

-- so c, or t, of one node at the box of the other
abbrev pub strip_apart : Row → Point → Point → Row → Bool
strip_apart r s u q = beyond_corners (c_at s u) r.cmin r.cmax q || beyond_corners (t_at s u) r.tmin r.tmax q

-- either way round
unfoldable pub apart : Row → Point → Point → Row → Point → Point → Bool
apart r s u q s' u' = boxes_apart r q || strip_apart r s u q || strip_apart q s' u' r

-- two leaves get the exact test; otherwise the node with more segments splits, A on a tie; a yes ends the walk
unfoldable pub meet_visit : List ℤ → List ℤ → List ℤ → List ℤ → Pair → Visit Nothing Pair
meet_visit ps t qs t' n =
    read_row LineA ps t n.a λ r.
    read_row LineB qs t' n.b λ q.
    cond (apart r (start_of ps n.a) (heading_of ps n.a) q (start_of qs n.b) (heading_of qs n.b)) (pass (λ k. k))
    (cond (leaf n.a && leaf n.b)
    (cond (share (start_of ps n.a) (end_of ps n.a) (start_of qs n.b) (end_of qs n.b)) finish (pass (λ k. k)))
    (cond (leb (size n.b) (size n.a))
    (halve (record { a = left_of n.a (split_in r); b = n.b }) (record { a = right_of n.a (split_in r); b = n.b }))
    (halve (record { a = n.a; b = left_of n.b (split_in q) }) (record { a = n.a; b = right_of n.b (split_in q) }))))

abbrev pub meet_walk : List ℤ → List ℤ → List ℤ → List ℤ → Tally → Walked Nothing
meet_walk ps t qs t' y =
    walk (meet_visit ps t qs t') (segments_of ps + segments_of qs) (record { a = root ps; b = root qs }) tt y

-- 1, 2, 3, 6 of A wholly, then of B, then the walk
abbrev pub meet_checks : List ℤ → List ℤ → List ℤ → List ℤ → List Check
meet_checks ps t qs t' = length_checks LineA ps t ++ length_checks LineB qs t'

unfoldable pub meet_reply : List ℤ → List ℤ → List ℤ → List ℤ → ℕ → Reply
meet_reply ps t qs t' allowance =
    or_refused (first_refusal (meet_checks ps t qs t'))
    (yes_or_no allowance (meet_walk ps t qs t' (fresh allowance)))

-- ---- IN: z is strictly outside box or strip
abbrev pub outside : ℤ → ℤ → ℤ → Bool
outside lo hi v = lt_z v lo || lt_z hi v

unfoldable pub clear_of : Row → Point → Point → Point → Bool
clear_of r s u z =
    outside r.xmin r.xmax z.x || outside r.ymin r.ymax z.y
    || outside r.cmin r.cmax (c_at s u z) || outside r.tmin r.tmax (t_at s u z)

-- counts are added, only odd or even matters
abbrev pub count : Bool → Bool → Bool
count b k = k ⊕ b

-- then the node counts as its chord alone, by the crossing rule; a leaf left over is tested exactly; on-edge ends the
-- walk
unfoldable pub in_visit : List ℤ → List ℤ → Point → Node → Visit Bool Node
in_visit ps t z n =
    read_row LineA ps t n λ r.
    cond (clear_of r (start_of ps n) (heading_of ps n) z) (pass (count (crosses z (start_of ps n) (end_of ps n))))
    (cond (leaf n)
    (cond (on_segment z (start_of ps n) (end_of ps n)) finish (pass (count (crosses z (start_of ps n) (end_of ps n)))))
    (halve (left_of n (split_in r)) (right_of n (split_in r))))

abbrev pub in_walk : List ℤ → List ℤ → Point → Tally → Walked Bool
in_walk ps t z y = walk (in_visit ps t z) (segments_of ps) (root ps) false y

abbrev pub side_of_ring : ℕ → Walked Bool → Reply
side_of_ring allowance (ended y) = says ON y.visits
side_of_ring allowance (over k y) = cond k (says INSIDE y.visits) (says OUTSIDE y.visits)
side_of_ring allowance spent = says UNDECIDED allowance
side_of_ring allowance (refused r) = refuses r

-- 1, 2, 3, 6, 8, 9, then the walk
abbrev pub in_checks : List ℤ → List ℤ → Point → List Check
in_checks ps t z = length_checks LineA ps t ++ asked_check z ∷ ring_check LineA ps ∷ []

unfoldable pub in_reply : List ℤ → List ℤ → Point → ℕ → Reply
in_reply ps t z allowance =
    or_refused (first_refusal (in_checks ps t z))
    (side_of_ring allowance (in_walk ps t z (fresh allowance)))

-- ---- AGREE: what asking points of one line against the other comes to
pub data Asked : Type 0 where
  all_near : Tally → Asked
  not_near : Line → ℕ → Tally → Asked  -- the first NO ends it, with line and point index
  unasked : Asked  -- a visit was due and none was left
  faulted : Refusal → Asked

-- 8 is checked as each point comes up, before its walk, with its index
abbrev pub ask_point : Line → List ℤ → ℕ → Tally → Asked → Asked
ask_point l ps i y go =
    cond (on_sheet (point ps i)) go (faulted (record { number = 8; line = l; place = i; visits = y.visits }))

abbrev pub on_near : Line → ℕ → Walked Nothing → (Tally → Asked) → Asked
on_near l i (ended y) go = go y
on_near l i (over k y) go = not_near l i y
on_near l i spent go = unasked
on_near l i (refused r) go = faulted r

-- the k points of line l from point i on, each against the other line, one tally over all
unfoldable pub ask_all : Line → List ℤ → Line → List ℤ → List ℤ → ℤ → ℕ → ℕ → Tally → Asked
ask_all l ps m qs t D i zero y = all_near y
ask_all l ps m qs t D i (suc k) y =
    ask_point l ps i y (on_near l i (near_walk m qs t (point ps i) D y) (λ v. ask_all l ps m qs t D (suc i) k v))

abbrev pub on_all_near : Asked → (Tally → Asked) → Asked
on_all_near (all_near y) go = go y
on_all_near (not_near l i y) go = not_near l i y
on_all_near unasked go = unasked
on_all_near (faulted r) go = faulted r

-- A's points in order against B, then B's against A, one allowance over all
unfoldable pub agree_walk : List ℤ → List ℤ → List ℤ → List ℤ → ℤ → Tally → Asked
agree_walk ps t qs t' D y =
    on_all_near (ask_all LineA ps LineB qs t' D 0 (points_of ps) y) (λ v. ask_all LineB qs LineA ps t D 0 (points_of qs) v)

abbrev pub agreed : ℕ → Asked → Reply
agreed allowance (all_near y) = says YES y.visits
agreed allowance (not_near l i y) = disagrees l i y.visits
agreed allowance unasked = says UNDECIDED allowance
agreed allowance (faulted r) = refuses r

-- 1, 2, 3, 6 of A wholly, then of B, then 7, then the walks
abbrev pub agree_checks : List ℤ → List ℤ → List ℤ → List ℤ → ℤ → List Check
agree_checks ps t qs t' D = length_checks LineA ps t ++ length_checks LineB qs t' ++ distance_check D ∷ []

unfoldable pub agree_reply : List ℤ → List ℤ → List ℤ → List ℤ → ℤ → ℕ → Reply
agree_reply ps t qs t' D allowance =
    or_refused (first_refusal (agree_checks ps t qs t' D))
    (agreed allowance (agree_walk ps t qs t' D (fresh allowance)))
