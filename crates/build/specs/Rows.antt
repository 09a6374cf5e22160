-- The row of a node, and its numbers in order.
use Rattle.std.specs.Prelude.{cond, List, ℕ, ℤ, pos}
use Rattle.rules.specs.declared.Row.{Row}
use Rattle.rules.specs.Tree.{split_of, measured, no_split, is_leaf}

-- the split s as the row of the node from first to last has it
abbrev pub split_number : ℕ → ℕ → ℕ → ℤ
split_number first last s = cond (is_leaf first last) no_split (pos s)

-- the row of the node that covers the points first to last
abbrev pub node_row : List ℤ → ℕ → ℕ → Row
node_row ps first last = measured ps first last (split_number first last (split_of ps first last))
