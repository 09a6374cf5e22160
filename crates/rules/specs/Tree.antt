-- docs/RULES.md, section 2: strip and box, the split, the row, the table in preorder.
use Rattle.std.specs.Prelude.{Bool, cond, ◌&&◌, ◌||◌, List, [], ◌∷◌, ◌++◌, ℕ, zero, suc, ◌+◌, ◌*◌, ◌-◌, leb, ltb, eqb, ℤ, pos, negsuc, nat_abs, get_or}
use Rattle.rules.specs.declared.Point.{Point}
use Rattle.rules.specs.declared.Row.{Row}
use Rattle.rules.specs.Plane.{min_z, max_z, direction, c_at, t_at}
use Rattle.rules.specs.Sheet.{point, most}

-- ---- a node covers points first to last; s is the first point and u the direction from it to the last
abbrev pub node_c : List ℤ → ℕ → ℕ → Point → ℤ
node_c ps first last p = c_at (point ps first) (direction (point ps first) (point ps last)) p

abbrev pub node_t : List ℤ → ℕ → ℕ → Point → ℤ
node_t ps first last p = t_at (point ps first) (direction (point ps first) (point ps last)) p

-- ---- the least and the greatest of f i, f (i + 1), .. f (i + k)
unfoldable pub least : (ℕ → ℤ) → ℕ → ℕ → ℤ
least f i zero = f i
least f i (suc k) = min_z (least f i k) (f (i + suc k))

unfoldable pub greatest : (ℕ → ℤ) → ℕ → ℕ → ℤ
greatest f i zero = f i
greatest f i (suc k) = max_z (greatest f i k) (f (i + suc k))

-- ---- the split: the inner point with the greatest absolute c ..
unfoldable pub height : List ℤ → ℕ → ℕ → ℕ → ℕ
height ps first last i = nat_abs (node_c ps first last (point ps i))

-- .. of equals, the smallest |2i - first - last|; of equals again, the lower
abbrev pub off_middle : ℕ → ℕ → ℕ → ℕ
off_middle first last i = (2 * i - (first + last)) + ((first + last) - 2 * i)

-- j, which is above i, takes its place
unfoldable pub better : List ℤ → ℕ → ℕ → ℕ → ℕ → Bool
better ps first last i j =
    ltb (height ps first last i) (height ps first last j)
    || (eqb (height ps first last i) (height ps first last j) && ltb (off_middle first last j) (off_middle first last i))

-- the best of the points first + 1, .. first + 1 + k
unfoldable pub best : List ℤ → ℕ → ℕ → ℕ → ℕ
best ps first last zero = first + 1
best ps first last (suc k) =
    let i = best ps first last k in
    let j = first + 1 + suc k in cond (better ps first last i j) j i

unfoldable pub split_of : List ℤ → ℕ → ℕ → ℕ
split_of ps first last = best ps first last (last - first - 2)

-- ---- a table row is 11 numbers: the one place that knows how many, and where each stands
abbrev pub width : ℕ
width = 11

abbrev pub numbers : Row → List ℤ
numbers r =
    r.first ∷ r.last ∷ r.split ∷ r.cmin ∷ r.cmax ∷ r.tmin ∷ r.tmax ∷ r.xmin ∷ r.xmax ∷ r.ymin ∷ r.ymax ∷ []

-- number k of row r
abbrev pub number_at : List ℤ → ℕ → ℕ → ℤ
number_at t r k = get_or t (width * r + k) (pos 0)

-- the row that stands at r
unfoldable pub row_at : List ℤ → ℕ → Row
row_at t r = record {
  first = number_at t r 0;
  last = number_at t r 1;
  split = number_at t r 2;
  cmin = number_at t r 3;
  cmax = number_at t r 4;
  tmin = number_at t r 5;
  tmax = number_at t r 6;
  xmin = number_at t r 7;
  xmax = number_at t r 8;
  ymin = number_at t r 9;
  ymax = number_at t r 10;
}

-- ---- the row of a node: strip and box are the least and greatest over the node's points
unfoldable pub measured : List ℤ → ℕ → ℕ → ℤ → Row
measured ps first last split = record {
  first = pos first;
  last = pos last;
  split = split;
  cmin = least (λ i. node_c ps first last (point ps i)) first (last - first);
  cmax = greatest (λ i. node_c ps first last (point ps i)) first (last - first);
  tmin = least (λ i. node_t ps first last (point ps i)) first (last - first);
  tmax = greatest (λ i. node_t ps first last (point ps i)) first (last - first);
  xmin = least (λ i. (point ps i).x) first (last - first);
  xmax = greatest (λ i. (point ps i).x) first (last - first);
  ymin = least (λ i. (point ps i).y) first (last - first);
  ymax = greatest (λ i. (point ps i).y) first (last - first);
}

-- split is -1 for a leaf
abbrev pub no_split : ℤ
no_split = negsuc 0

-- a node of one segment is a leaf
abbrev pub is_leaf : ℕ → ℕ → Bool
is_leaf first last = leb last (first + 1)

-- ---- the table: rows stand in preorder, both halves share the split point. At most this many levels are written
unfoldable pub rows_of : ℕ → List ℤ → ℕ → ℕ → List ℤ
rows_of zero ps first last = []
rows_of (suc levels) ps first last =
    let s = split_of ps first last in
    let halves = rows_of levels ps first s ++ rows_of levels ps s last in
    cond (is_leaf first last) (numbers (measured ps first last no_split))
    (numbers (measured ps first last (pos s)) ++ halves)

-- 2n-1 rows for n segments
abbrev pub row_count : ℕ → ℕ
row_count n = 2 * n - 1

-- no table has more
abbrev pub most_rows : ℕ
most_rows = row_count (most - 1)

-- the left child next, the right child 2*(split - first) rows on
abbrev pub left_row : ℕ → ℕ
left_row row = row + 1

abbrev pub right_row : ℕ → ℕ → ℕ → ℕ
right_row row first split = row + 2 * (split - first)
