-- `check_node` takes one level of the written check.
use Rattle.std.proofs.Common.{arith, ◌≡◌, sym, subst, ap, ◌∙◌, List, ℕ, ◌+◌, ◌*◌, ◌-◌, ◌≤◌, ◌<◌}
use mathlib.Core.Option.{Option, none}
use Prim.Native.Nat.{pred}
use lib.IntN.{ℤ, pos}
use lib.Signed.{◌≤ℤ◌}
use Rattle.rules.specs.declared.Node.{Node}
use Rattle.rules.specs.declared.Refusal.{Refusal}
use Rattle.rules.specs.declared.Row.{Row}
use Rattle.rules.specs.Tree.{row_at, most_rows}
use Rattle.rules.specs.Reply.{or_else}
use Rattle.rules.specs.Questions.{left_of, right_of, split_in}
use Rattle.rules.specs.Check.{read_from, row_fault, fault_from}
use Rattle.visits.specs.Nodes.{Inner}
use Rattle.visits.proofs.Nodes.{GoodRow, good-read}
use Rattle.checked.proofs.Sound.{none-fine}
use Rattle.row.specs.Stands.{Stands, node_at}
use Rattle.row.proofs.Places.{left-stands, right-stands, row_small}
use Rattle.checker.specs.Found.{found_fault}
use Rattle.checker.proofs.Level.{nothing-found, found-stops, leaf-level, inner-level}
use Rattle.checker.proofs.+check_node.Goals.{Else-own-ne0, After-split_of-split}
use Rattle.checker.proofs.+check_node.Goals as goal

-- past the own row of a node that is no leaf: it is fine, so it is good
module _ {t : ℕ} (c : Else-own-ne0 t) where
  abbrev points : List ℤ
  points = c.args.points.now.now

  abbrev row : Row
  row = row_at c.args.table.now.now c.args.row

  abbrev at : Node
  at = node_at c.args.row c.args.first c.args.last

  own-none : row_fault points row at ≡ none
  own-none =
      let nothing : c.check_row-own.result ≡ 0 = omega arith in
      sym c.check_row-own.ensures ∙ ap found_fault nothing ∙ nothing-found

  row-good : GoodRow points row c.args.first c.args.last
  row-good = good-read points row c.args.first c.args.last (none-fine points row at own-none).0

-- past its split, which is an inner point
module _ {t : ℕ} (c : After-split_of-split t) where
  abbrev fine : Else-own-ne0 t
  fine = c.before.before.before

  mid-told : c.split_of-split.result ≡ split_in (row fine)
  mid-told = c.split_of-split.ensures ∙ ap split_in c.row_at.ensures

  inside : Inner c.args.first c.split_of-split.result c.args.last
  inside =
      subst (λ (m : ℕ). Inner c.args.first m c.args.last) (sym mid-told) ((row-good fine).split_between (omega arith))

  left_in : Stands (points fine) c.args.table.now.now (left_of (at fine) c.split_of-split.result)
  left_in = left-stands c.requires.0 inside

  right-in : Stands (points fine) c.args.table.now.now (right_of (at fine) c.split_of-split.result)
  right-in = right-stands c.requires.0 inside

  right-row : (c.args.first < c.split_of-split.result)
      × (c.args.row + 2 * (c.split_of-split.result - c.args.first) < most_rows)
  right-row = (inside.above, row_small right-in)

  -- what the halves come to, by the split that was read
  abbrev half : ℕ → (Node → ℕ → Node) → ℕ → Option Refusal
  half f of mid = fault_from (read_from c.args.table.now.now) (pred f) (points fine) (of (at fine) mid)

  level : (f : ℕ) → c.args.last ≤ f + c.args.first
      → fault_from (read_from c.args.table.now.now) f (points fine) (at fine)
      ≡ or_else (half f left_of c.split_of-split.result) (half f right_of c.split_of-split.result)
  level f enough =
      inner-level (read_from c.args.table.now.now) (points fine) (at fine) f c.requires.0.fits.some-segment enough
      (omega arith)
      ∙ (λ d. or_else (own-none fine d)
      (or_else (half f left_of (sym mid-told d)) (half f right_of (sym mid-told d))))

pub returns-then-last-first : goal.returns-then-last-first
returns-then-last-first t c f enough =
    let a = c.args in
    c.check_row.ensures
    ∙ sym (leaf-level (read_from a.table.now.now) a.points.now.now (node_at a.row a.first a.last) f
    c.requires.0.fits.some-segment enough (omega arith))

pub returns-then-own-ne0 : goal.returns-then-own-ne0
returns-then-own-ne0 t c f enough =
    let a = c.args in
    found-stops c.check_row-own.result _ (omega arith) c.check_row-own.ensures
    ∙ sym (inner-level (read_from a.table.now.now) a.points.now.now (node_at a.row a.first a.last) f
    c.requires.0.fits.some-segment enough (omega arith))

pub split_of-split-requires : goal.split_of-split-requires
split_of-split-requires t c =
    let good = row-good (goal.at.split_of-split-requires t c).Else-own-ne0 in
    subst (λ (r : Row). pos 0 ≤ℤ r.split) (sym c.row_at.ensures) (good.split-above (omega arith))

pub check_node-left-requires : goal.check_node-left-requires
check_node-left-requires t c =
    let k = (goal.at.check_node-left-requires t c).After-split_of-split in
    let i = inside k in (omega (arith, c.decreases, i.above, i.below), (left_in k, c.requires.1))

pub returns-then-left-ne0 : goal.returns-then-left-ne0
returns-then-left-ne0 t c f enough =
    let k = (goal.at.returns-then-left-ne0 t c).After-split_of-split in
    found-stops c.check_node-left.result {own = half k f left_of c.split_of-split.result} _ (omega arith)
    (c.check_node-left.ensures (pred f) (omega (arith, (inside k).below)))
    ∙ sym (level k f enough)

pub overflow_sub-split : goal.overflow_sub-split
overflow_sub-split t c = omega (arith, (inside (goal.at.overflow_sub-split t c).After-split_of-split).above)

pub overflow_mul-split : goal.overflow_mul-split
overflow_mul-split t c =
    let r = right-row (goal.at.overflow_mul-split t c).After-split_of-split in omega (arith, r.0, r.1)

pub overflow_add-row-2 : goal.overflow_add-row-2
overflow_add-row-2 t c =
    let r = right-row (goal.at.overflow_add-row-2 t c).After-split_of-split in omega (arith, r.0, r.1)

pub check_node-requires : goal.check_node-requires
check_node-requires t c =
    let k = (goal.at.check_node-requires t c).After-split_of-split in
    let i = inside k in (omega (arith, c.decreases, i.above, i.below), (right-in k, c.requires.1))

pub returns : goal.returns
returns t c f enough =
    let k = (goal.at.returns t c).After-split_of-split in
    let i = inside k in
    let nothing : c.check_node-left.result ≡ 0 = omega arith in
    let left =
    sym (c.check_node-left.ensures (pred f) (omega (arith, i.below))) ∙ ap found_fault nothing ∙ nothing-found in
    c.check_node.ensures (pred f) (omega (arith, i.above))
    ∙ sym (level k f enough ∙ (λ d. or_else (left d) (half k f right_of c.split_of-split.result)))
