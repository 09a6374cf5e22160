-- A pair is halved on one side: its halves have fewer segments, and are pairs to walk from where the row that is new in
-- them is good; and what is handed back of them says what the walk comes to. Each law is said once, for either side.
use Rattle.std.specs.Prelude.{Some}
use mathlib.Core.Path.{◌≡◌, refl, sym, ◌∙◌, ap, subst, subst₂}
use mathlib.Core.Bool.{Bool, true, false}
use mathlib.Core.List.{List}
use Prim.Native.Nat.{ℕ, pred, ◌+◌, ◌*◌, ◌<◌, ◌≤◌}
use native.Mathlib.Omega.{arith}
use lib.Dec.{T, leb}
use lib.IntN.{ℤ}
use Rattle.integers.specs.Order.{T_true}
use Rattle.rules.specs.declared.Line.TheVariants.{LineA, LineB}
use Rattle.rules.specs.declared.Node.{Node}
use Rattle.rules.specs.declared.Pair.{Pair}
use Rattle.rules.specs.declared.Tally.{Tally}
use Rattle.rules.specs.Sheet.{point, on_sheet}
use Rattle.rules.specs.Tree.{row_at}
use Rattle.rules.specs.Walk.{next, refuse, halve}
use Rattle.rules.specs.Questions.{Nothing, size, left_of, right_of, meet_visit}
use Rattle.visits.proofs.Nodes.{GoodRow, good-read}
use Rattle.row.specs.Stands.{Stands, EndsOn}
use Rattle.row.proofs.Places.{row_small, left-stands, right-stands}
use Rattle.ending.specs.Ending.{end_in, ENDED, tally_in, due}
use Rattle.ending.proofs.OneLevel.{Level, says, whole, below, left-stops, right-goes}
use Rattle.ending.proofs.OneLevel.{bad-left, second-bad-left, bad-right, second-bad-right}
use Rattle.meet_visit.specs.declared.Does.{Does}
use Rattle.meet_visit.specs.declared.Rows.{Rows}
use Rattle.meet_visit.specs.declared.Step.{Step}
use Rattle.meet_visit.specs.declared.Side.{Side}
use Rattle.meet_visit.specs.declared.Side.TheVariants.{OfA, OfB}
use Rattle.meet_visit.specs.Sides.{on, line_on, node_on, with_node, left_on, right_on}
use Rattle.meet_visit.specs.Steps.{opened, compared}
use Rattle.meet_visit.specs.Pairs.{good_at, NodeStands, PairStands, pair_in}
use Rattle.meet_visit.proofs.GoodRows.{pair-told}
use Rattle.meet_visit.proofs.Steps.{Says, Splits, bad-a, bad-b, visit-says}
use Rattle.meet_walk.specs.Pair.{ahead, segments}
use Rattle.meet_walk.specs.Walks.{HalvedOn, Opens, Walks, WalksOn, bad_on, rows_with}

-- ---------------- fewer segments: a half has some, and fewer than the pair, so one level less is enough for it
-- and its rows come later in the tables
pub record Fewer (m n : Pair) : Type 0 where
  pub some : 0 < segments m
  pub less : segments m < segments n
  pub later : ahead m < ahead n

fewer-on : {ps t qs t' : List ℤ} (k : Side) {n : Pair} (h : PairStands ps t qs t' n) (m : Node)
    → m.first < m.last → size m < size (node_on k n) → (node_on k n).row < m.row → Fewer (with_node k n m) n
fewer-on OfA h m some less later =
    let a = row_small h.of-a.stands in
    let b = row_small h.of-b.stands in record { some = omega arith; less = omega arith; later = omega arith }
fewer-on OfB h m some less later =
    let a = row_small h.of-a.stands in
    let b = row_small h.of-b.stands in record { some = omega arith; less = omega arith; later = omega arith }

enough : {m n : Pair} {f : ℕ} → Fewer m n → segments n ≤ f → segments m ≤ pred f
enough k h = one_less k.less h
  where
    one_less : {m n f : ℕ} → m < n → n ≤ f → m ≤ pred f
    one_less k h = omega arith

some_level : {m n : Pair} {f : ℕ} → Fewer m n → segments n ≤ f → 0 < pred f
some_level k h = above k.some (enough k h)
  where
    above : {m f : ℕ} → 0 < m → m ≤ f → 0 < f
    above k h = omega arith

-- ---------------- one level of the walk from a pair
module _ {ps t qs t' : List ℤ} {n : Pair} (h : PairStands ps t qs t' n) where
  pub some-segment : {f : ℕ} → segments n ≤ f → 0 < f
  some-segment e = let a = h.of-a.stands.fits.some-segment in omega arith

  abbrev pub level_of : (y : Tally) (f : ℕ) → segments n ≤ f → Level Nothing Pair
  level_of y f e = record {
    even = tt;
    odd = tt;
    first = LineA;
    second = LineB;
    does = meet_visit ps t qs t';
    node = n;
    count = tt;
    tally = y;
    levels = f;
    some_level = some-segment e;
  }

  -- ---------------- the node on a side, and another in its place
  stands_on : (k : Side) → NodeStands (on k ps qs) (on k t t') (node_on k n)
  stands_on OfA = h.of-a
  stands_on OfB = h.of-b

  with-stands : (k : Side) {m : Node} → NodeStands (on k ps qs) (on k t t') m → PairStands ps t qs t' (with_node k n m)
  with-stands OfA g = record { of-a = g; of-b = h.of-b }
  with-stands OfB g = record { of-a = h.of-a; of-b = g }

  bad-on : (k : Side) (m : Node) → good_at (on k ps qs) (on k t t') m ≡ false
      → refuse 10 (line_on k) m.row ≡ meet_visit ps t qs t' (with_node k n m)
  bad-on OfA m e = bad-a ps t qs t' (with_node OfA n m) e
  bad-on OfB m e = bad-b ps t qs t' (with_node OfB n m) h.of-a.row-good e

-- what the walk comes to where a half has a bad row
module _ {ps t : List ℤ} {m : Node} (h : Stands ps t m) (v : Level Nothing Pair) {counted : Tally}
    (made : next v.tally ≡ Some counted) {l r : Pair} (halves : halve l r ≡ v.does v.node)
    (more : 0 < pred v.levels) {ending : ℕ} where
  bad-left-on : (k : Side) → ending ≡ due (next counted) (bad_on k + m.row)
      → refuse 10 (on k v.first v.second) m.row ≡ v.does l → says v v.tally ending ≡ whole v
  bad-left-on OfA = bad-left v made halves more (row_small h)
  bad-left-on OfB = second-bad-left v made halves more (row_small h)

  module _ (left : ℕ) (comes : says v counted left ≡ below v l v.count counted)
      (goes : leb ENDED (end_in left) ≡ false) {y : Tally} (tallied : y ≡ tally_in counted.allowance left) where
    bad-right-on : (k : Side) → ending ≡ due (next y) (bad_on k + m.row)
        → refuse 10 (on k v.first v.second) m.row ≡ v.does r → says v v.tally ending ≡ whole v
    bad-right-on OfA = bad-right v made halves left comes goes tallied more (row_small h)
    bad-right-on OfB = second-bad-right v made halves left comes goes tallied more (row_small h)

-- ---------------- what a visit of a pair whose rows are good does, and the halves where it halves a node
abbrev step_of : List ℤ → List ℤ → Pair → Step
step_of t t' n = opened (row_at t n.a.row) (row_at t' n.b.row) n

pub seen : {ps t qs t' : List ℤ} {n : Pair} {d : Does} → PairStands ps t qs t' n
    → d ≡ compared ps (row_at t n.a.row) qs (row_at t' n.b.row) n → Says n (step_of t t' n) d (meet_visit ps t qs t' n)
seen h e = visit-says _ _ _ _ _ h.of-a h.of-b e

pub opens : {ps t qs t' : List ℤ} {n m : Pair} {o : Step} → Opens ps t qs t' n → m ≡ n → o ≡ step_of t t' n
    → PairStands ps t qs t' m × Splits m o (meet_visit ps t qs t' m)
opens {ps} {t} {qs} {t'} h pair-is step-is =
    subst₂ (λ (n : Pair) (o : Step). PairStands ps t qs t' n × Splits n o (meet_visit ps t qs t' n))
    (sym pair-is) (sym step-is) (h.pair-stands, ((seen h.pair-stands (sym h.halves)).halves refl).0)

pub falls-by : {n m : Pair} {k : ℕ} → m ≡ n → 3 * ahead n + 1 ≡ k → 3 * ahead m < k
falls-by {k} pair-is e = subst (λ (n : Pair). 3 * ahead n < k) (sym pair-is) (omega (arith, e))

-- ---------------- a half that is handed on as its rows
pub record Handed (ps t qs t' : List ℤ) (m : Pair) (rows : Rows) : Type 0 where
  pub stands : PairStands ps t qs t' m
  pub told : pair_in t t' rows ≡ m

handed : {ps t qs t' : List ℤ} (k : Side) (n : Pair) (m : Node) {rows : Rows} → PairStands ps t qs t' (with_node k n m)
    → rows ≡ rows_with k n m.row → Handed ps t qs t' (with_node k n m) rows
handed {t} {t'} OfA n m h e = record { stands = h; told = ap (pair_in t t') e ∙ pair-told h }
handed {t} {t'} OfB n m h e = record { stands = h; told = ap (pair_in t t') e ∙ pair-told h }

module _ {ps t qs t' : List ℤ} {m : Pair} {rows : Rows} (h : Handed ps t qs t' m rows) where
  -- a walk from there is below one of the pair
  pub falls-to : {n : Pair} {k : ℕ} → Fewer m n → 3 * ahead n ≡ k
      → (3 * ahead (pair_in t t' rows) + 2 < k) × PairStands ps t qs t' (pair_in t t' rows)
  falls-to {k} f e = (
    subst (λ (p : Pair). 3 * ahead p + 2 < k) (sym h.told) (omega (arith, f.later)),
    subst (PairStands ps t qs t') (sym h.told) h.stands,
  )

  pub walked_to : (y : Tally) (r : ℕ) → Walks ps t qs t' (pair_in t t' rows) y r → Walks ps t qs t' m y r
  walked_to y r w = subst (λ (p : Pair). Walks ps t qs t' p y r) h.told w

-- a row that was asked for is good
is-good : {g b : Bool} → g ≡ b → g ≡ true → T b
is-good said g = T_true (sym said ∙ g)

-- the left half is walked and is over, and this tally follows
pub record LeftOver {k : Side} {ps t qs t' : List ℤ} {n : Pair} {split : ℕ} (o : HalvedOn k ps t qs t' n split)
    (counted following : Tally) : Type 0 where
  pub left : ℕ
  pub comes : Walks ps t qs t' (left_on k n split) counted left
  pub goes : leb ENDED (end_in left) ≡ false
  pub tallied : following ≡ tally_in counted.allowance left

-- ---------------- the line and the node on a side, as they were taken
pub record Taken (k : Side) (ps t qs t' : List ℤ) (n : Pair) (points table : List ℤ) (node : Node) : Type 0 where
  pub points-is : points ≡ on k ps qs
  pub table-is : table ≡ on k t t'
  pub node-is : node ≡ node_on k n

pub taken : {k : Side} {ps t qs t' : List ℤ} {n : Pair} {points table : List ℤ} {node : Node}
    → (points ≡ on k ps qs) × (table ≡ on k t t') → node ≡ node_on k n → Taken k ps t qs t' n points table node
taken line-is node-is = record { points-is = line-is.0; table-is = line-is.1; node-is = node-is }

module _ {k : Side} {ps t qs t' : List ℤ} {n : Pair} {points table : List ℤ} {node : Node}
    (x : Taken k ps t qs t' n points table node) where
  -- what holds of them on the side
  as-taken : (P : List ℤ → List ℤ → Node → Type 0) → P (on k ps qs) (on k t t') (node_on k n) → P points table node
  as-taken P h =
      subst (λ (ps' : List ℤ). P ps' table node) (sym x.points-is)
      (subst₂ (λ (t'' : List ℤ) (m : Node). P (on k ps qs) t'' m) (sym x.table-is) (sym x.node-is) h)

-- ---------------- the halves on a side
module _ {k : Side} {ps t qs t' : List ℤ} {n : Pair} {split : ℕ} (o : HalvedOn k ps t qs t' n split) where
  abbrev left_node : Node
  left_node = left_of (node_on k n) split

  abbrev right_node : Node
  right_node = right_of (node_on k n) split

  left-half : Stands (on k ps qs) (on k t t') left_node
  left-half = left-stands (stands_on o.pair-stands k).stands o.inner

  right-half : Stands (on k ps qs) (on k t t') right_node
  right-half = right-stands (stands_on o.pair-stands k).stands o.inner

  -- what the row of the node tells: where it begins and ends
  tells : GoodRow (on k ps qs) (row_at (on k t t') (node_on k n).row) (node_on k n).first (node_on k n).last
  tells = good-read _ _ (node_on k n).first (node_on k n).last (stands_on o.pair-stands k).row-good

  pub left-fewer : Fewer (left_on k n split) n
  left-fewer = fewer-on k o.pair-stands left_node o.inner.above (omega (arith, o.inner)) (omega arith)

  pub right-fewer : Fewer (right_on k n split) n
  right-fewer = fewer-on k o.pair-stands right_node o.inner.below (omega (arith, o.inner)) (omega arith)

  -- the left half is walked, and stops
  pub left-stopped : {counted : Tally} (left : ℕ) → Walks ps t qs t' (left_on k n split) counted left
      → {q : Bool} → q ≡ leb ENDED (end_in left) → q ≡ true → WalksOn ps t qs t' n counted left
  left-stopped left comes said stop y made f e =
      left-stops (level_of o.pair-stands y f e) made o.visit left (comes (pred f) (enough left-fewer e))
      (sym said ∙ stop)

  pub left-over : {counted following : Tally} (left : ℕ) → Walks ps t qs t' (left_on k n split) counted left
      → {q : Bool} → q ≡ leb ENDED (end_in left) → q ≡ false → following ≡ tally_in counted.allowance left
      → LeftOver o counted following
  left-over left comes said goes tallied =
      record { left = left; comes = comes; goes = sym said ∙ goes; tallied = tallied }

  -- .. or is over: this tally follows, and what the right half comes to is what the pair comes to
  pub right-comes : {counted following : Tally} → LeftOver o counted following → (ending : ℕ)
      → Walks ps t qs t' (right_on k n split) following ending → WalksOn ps t qs t' n counted ending
  right-comes w ending comes y made f e =
      right-goes (level_of o.pair-stands y f e) made o.visit w.left
      (w.comes (pred f) (enough left-fewer e)) w.goes w.tallied ending refl
      (comes (pred f) (enough right-fewer e))

  -- ---------------- the same of the line and the node as they were taken
  module _ {points table : List ℤ} {node : Node} (x : Taken k ps t qs t' n points table node) where
    asked : (half : Node → Node) {g : Bool} → g ≡ good_at points table (half node)
        → g ≡ good_at (on k ps qs) (on k t t') (half (node_on k n))
    asked half said = said ∙ (λ i. good_at (x.points-is i) (x.table-is i) (half (x.node-is i)))

    left-at : {g : Bool} → g ≡ good_at points table (left_of node split)
        → g ≡ good_at (on k ps qs) (on k t t') left_node
    left-at = asked (λ m. left_of m split)

    right-at : {g : Bool} → g ≡ good_at points table (right_of node split)
        → g ≡ good_at (on k ps qs) (on k t t') right_node
    right-at = asked (λ m. right_of m split)

    pub left-stands-at : Stands points table (left_of node split)
    left-stands-at = as-taken x (λ ps' t'' m. Stands ps' t'' (left_of m split)) left-half

    pub right-stands-at : Stands points table (right_of node split)
    right-stands-at = as-taken x (λ ps' t'' m. Stands ps' t'' (right_of m split)) right-half

    pub left-starts : T (on_sheet (point points node.first))
    left-starts = as-taken x (λ ps' t'' m. T (on_sheet (point ps' m.first))) tells.start-on

    -- where the row of the left half was asked for and is good, it tells where the right half begins
    pub right-ends : {g : Bool} → g ≡ good_at points table (left_of node split) → g ≡ true
        → EndsOn points (right_of node split)
    right-ends said g =
        let r = good-read (on k ps qs) _ left_node.first split (is-good (left-at said) g) in
        as-taken x (λ ps' t'' m. EndsOn ps' (right_of m split))
        (record { start-on = r.end_on; end_on = tells.end_on })

    -- a half is a pair to walk from where its row was asked for and is good
    pub left-handed : {g : Bool} {rows : Rows} → g ≡ good_at points table (left_of node split) → g ≡ true
        → rows ≡ rows_with k n (left_of node split).row → Handed ps t qs t' (left_on k n split) rows
    left-handed said g e =
        handed k n left_node
        (with-stands o.pair-stands k (record { stands = left-half; row-good = is-good (left-at said) g }))
        (e ∙ (λ i. rows_with k n (left_of (x.node-is i) split).row))

    pub right-handed : {g : Bool} {rows : Rows} → g ≡ good_at points table (right_of node split) → g ≡ true
        → rows ≡ rows_with k n (right_of node split).row → Handed ps t qs t' (right_on k n split) rows
    right-handed said g e =
        handed k n right_node
        (with-stands o.pair-stands k (record { stands = right-half; row-good = is-good (right-at said) g }))
        (e ∙ (λ i. rows_with k n (right_of (x.node-is i) split).row))

    -- and where it is bad, that is what the pair comes to
    module _ {counted : Tally} where
      pub left-bad : {ending : ℕ} {g : Bool} → g ≡ good_at points table (left_of node split) → g ≡ false
          → ending ≡ due (next counted) (bad_on k + (left_of node split).row) → WalksOn ps t qs t' n counted ending
      left-bad said g is y made f e =
          bad-left-on left-half (level_of o.pair-stands y f e) made o.visit (some_level left-fewer e) k
          (is ∙ (λ i. due (next counted) (bad_on k + (left_of (x.node-is i) split).row)))
          (bad-on o.pair-stands k left_node (sym (left-at said) ∙ g))

      pub right-bad : {following : Tally} → LeftOver o counted following → {ending : ℕ} {g : Bool}
          → g ≡ good_at points table (right_of node split) → g ≡ false
          → ending ≡ due (next following) (bad_on k + (right_of node split).row)
          → WalksOn ps t qs t' n counted ending
      right-bad {following} w said g is y made f e =
          bad-right-on right-half (level_of o.pair-stands y f e) made o.visit (some_level right-fewer e)
          w.left (w.comes (pred f) (enough left-fewer e)) w.goes w.tallied k
          (is ∙ (λ i. due (next following) (bad_on k + (right_of (x.node-is i) split).row)))
          (bad-on o.pair-stands k right_node (sym (right-at said) ∙ g))
