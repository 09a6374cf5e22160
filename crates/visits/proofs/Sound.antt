-- A node of a sound table with all that is below it, under whatever number of levels is enough for it: its row is good
-- and holds its points, and its halves are such nodes again.
use mathlib.Core.Path.{◌≡◌}
use mathlib.Core.Bool.{true}
use mathlib.Core.List.{List}
use Prim.Native.Nat.{ℕ, zero, suc, ◌+◌, ◌≤◌, ◌<◌}
use native.Mathlib.Omega.{arith}
use lib.Dec.{T}
use lib.IntN.{ℤ}
use Rattle.integers.specs.Order.{yes-T}
use Rattle.rules.specs.declared.Node.{Node}
use Rattle.rules.specs.Sheet.{point, segments_of}
use Rattle.rules.specs.Tree.{row_at}
use Rattle.rules.specs.Rows.{good}
use Rattle.rules.specs.Questions.{root, left_of, right_of, split_in, start_of, heading_of}
use Rattle.rules.specs.Build.{sound_from, sound}
use Rattle.visits.specs.Nodes.{Inner}
use Rattle.visits.proofs.Nodes.{GoodRow, good-read, SoundNode, sound-read}
use Rattle.visits.proofs.Held.{Held, held}

pub record SoundTree (ps t : List ℤ) (n : Node) : Type 0 where
  pub levels : ℕ
  pub enough : n.last ≤ suc levels + n.first
  pub node : SoundNode levels ps t n
  pub some-segment : n.first < n.last

tree : {ps t : List ℤ} {n : Node} (f : ℕ) → T (sound_from f ps t n) → n.last ≤ f + n.first → n.first < n.last
    → SoundTree ps t n
tree zero h e k = absurd (omega arith)
tree {ps} {t} {n} (suc f) h e k =
    record { levels = f; enough = e; node = sound-read f ps t n k h; some-segment = k }

-- the root of a sound table
pub root-tree : (ps t : List ℤ) → T (sound ps t) → 1 ≤ segments_of ps → SoundTree ps t (root ps)
unfolding sound
root-tree ps t h one = tree (segments_of ps) h (omega arith) one

module _ {ps t : List ℤ} {n : Node} (g : SoundTree ps t n) where
  -- refusal 10 does not come
  pub row-good : good ps (row_at t n.row) n.first n.last ≡ true
  row-good = yes-T _ g.node.row-good

  pub row_read : GoodRow ps (row_at t n.row) n.first n.last
  row_read = good-read ps (row_at t n.row) n.first n.last g.node.row-good

  -- strip and box hold each point of the run
  pub row-holds : (i : ℕ) → n.first ≤ i → i ≤ n.last
      → Held (row_at t n.row) (start_of ps n) (heading_of ps n) (point ps i)
  row-holds i a b = held (row_at t n.row) ps n.first n.last (point ps i) (g.node.holds i a b)

  -- a leaf ends at the next point
  pub leaf-next : n.last ≤ n.first + 1 → n.last ≡ suc n.first
  leaf-next h = let l = g.some-segment in omega arith

  -- any other node splits at an inner point
  abbrev pub split_at : ℕ
  split_at = split_in (row_at t n.row)

  module _ (more : n.first + 1 < n.last) where
    inner : Inner n.first split_at n.last
    inner = row_read.split_between more

    pub low : n.first < split_at
    low = inner.above

    pub high : split_at < n.last
    high = inner.below

    pub left-tree : SoundTree ps t (left_of n split_at)
    left-tree = tree g.levels (g.node.halves more).0 (omega (arith, g.enough, high)) low

    pub right-tree : SoundTree ps t (right_of n split_at)
    right-tree = tree g.levels (g.node.halves more).1 (omega (arith, g.enough, low)) high
