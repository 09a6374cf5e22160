-- `walk` takes one level of the written walk. A split off the sheet is refused in place of the left half, whose row it
-- makes bad.
use mathlib.Core.Path.{◌≡◌, refl, sym, ◌∙◌, ap, subst}
use mathlib.Core.Bool.{Bool, true, false, cond, not, beq}
use mathlib.Core.List.{List}
use Prim.Native.Nat.{ℕ, pred, ◌+◌, ◌≤◌}
use native.Mathlib.Omega.{arith}
use lib.IntN.{ℤ}
use Rattle.integers.specs.Order.{T_true}
use Rattle.rules.specs.declared.Line.{Line}
use Rattle.rules.specs.declared.Node.{Node}
use Rattle.rules.specs.declared.Tally.{Tally}
use Rattle.rules.specs.Plain.{◌⊕◌}
use Rattle.rules.specs.Questions.{left_of}
use Rattle.visits.specs.Nodes.{Inner}
use Rattle.ending.proofs.OneLevel.{Level, none_left, yes-here, over-here, bad-here, left-stops, bad-left, right-goes}
use Rattle.row.specs.Stands.{Stands, node_at}
use Rattle.row.proofs.Parts.{end-off}
use Rattle.row.proofs.Places.{row_small, left-stands, right-stands, left-ends, right-ends}
use Rattle.walk.specs.Tests.{Tests, Counting, count_of}
use Rattle.walk.specs.Steps.{step_visit, SplitsInside, Visits}
use Rattle.walk.specs.Walks.{visit_of}
use Rattle.walk.specs.declared.Step.{Step}
use Rattle.walk.specs.declared.Step.TheVariants.{Halve}
use Rattle.walk.proofs.Visits.{row-bad}
use Rattle.walk.proofs.+walk.Goals as goal

-- the count after a node that is passed, by whether it is odd
one_more : {S : Type 0} (k : Counting S) (is_odd crossed : Bool)
    → cond (not (beq is_odd crossed)) k.odd k.even ≡ k.after crossed (count_of k is_odd)
one_more k is_odd crossed = ap (count_of k) (exclusive is_odd crossed) ∙ k.adds is_odd crossed
  where
    exclusive : (a b : Bool) → not (beq a b) ≡ a ⊕ b
    exclusive true true = refl
    exclusive true false = refl
    exclusive false true = refl
    exclusive false false = refl

module _ {S : Type 0} (k : Counting S) (q : Tests) {ps t : List ℤ} {n : Node} where
  -- what the walk is at, where it stands at a node with at most f levels left
  abbrev level : Stands ps t n → Bool → Tally → (l m : Line) (f : ℕ) → n.last ≤ f + n.first → Level S Node
  level stands is_odd tally l m f enough = record {
    even = k.even;
    odd = k.odd;
    first = l;
    second = m;
    does = visit_of k q ps t l;
    node = n;
    count = count_of k is_odd;
    tally = tally;
    levels = f;
    some_level = omega (arith, stands.fits.some-segment);
  }

  did : {v w : Step} → Visits q ps t n v → v ≡ w → (l : Line) → step_visit k.after l n w ≡ visit_of k q ps t l n
  did seen is l = ap (step_visit k.after l n) (sym is ∙ seen.does)

-- the node is halved at an inner point
inside : {q : Tests} {ps t : List ℤ} {n : Node} {v : Step} {s : ℕ} → Visits q ps t n v → v ≡ Halve s
    → Inner n.first s n.last
inside {n = n} seen is = subst (SplitsInside n.first n.last) is seen.inside

pub returns-in_default : goal.returns-in_default
returns-in_default g t c l m f enough =
    let a = c.args in
    let k = g.Q.Question.counting in
    let q = g.Q.Question.tests a.question.now in
    none_left (level k q c.requires.stands a.odd a.tally l m f enough) (sym c.visit.ensures ∙ c.in_default.is) c.pack.ensures

pub returns-then-not-on_sheet_at : goal.returns-then-not-on_sheet_at
returns-then-not-on_sheet_at g t c l m f enough =
    let a = c.args in
    let k = g.Q.Question.counting in
    let q = g.Q.Question.tests a.question.now in
    let p = c.requires.stands in
    let i = inside c.visit-2.ensures c.in-Halve.is in
    let ps = a.points.now.now in
    let off = sym c.on_sheet_at.ensures ∙ c.if-not-on_sheet_at.true in
    let left = left_of (node_at a.row a.first a.last) c.in-Halve.split in
    bad-left (level k q p a.odd a.tally l m f enough) (sym c.visit.ensures ∙ c.in-Some.is)
    (did k q c.visit-2.ensures c.in-Halve.is l) (omega arith) (row_small (left-stands p i)) c.bad_row_due.ensures
    (ap (step_visit k.after l left) (row-bad q ps a.table.now.now left (end-off ps _ a.first c.in-Halve.split off)))

pub walk-left-requires : goal.walk-left-requires
walk-left-requires g t c κs within =
    let i = inside c.visit-2.ensures c.in-Halve.is in
    let on = T_true (sym c.on_sheet_at.ensures ∙ c.if-not-on_sheet_at.false) in
    (omega (arith, c.decreases), (within, (left-stands c.requires.stands i, left-ends c.requires.ends on)))

pub returns-then-stopped : goal.returns-then-stopped
returns-then-stopped g t c l m f enough =
    let a = c.args in
    let k = g.Q.Question.counting in
    let q = g.Q.Question.tests a.question.now in
    let i = inside c.visit-2.ensures c.in-Halve.is in
    left-stops (level k q c.requires.stands a.odd a.tally l m f enough) (sym c.visit.ensures ∙ c.in-Some.is)
    (did k q c.visit-2.ensures c.in-Halve.is l) c.walk-left.result
    (c.walk-left.ensures l m (pred f) (omega arith)) (sym c.stopped.ensures ∙ c.if-stopped.true)

pub walk-requires : goal.walk-requires
walk-requires g t c κs within =
    let i = inside c.visit-2.ensures c.in-Halve.is in
    let on = T_true (sym c.on_sheet_at.ensures ∙ c.if-not-on_sheet_at.false) in
    (omega (arith, c.decreases), (within, (right-stands c.requires.stands i, right-ends c.requires.ends on)))

pub returns-in-Bad : goal.returns-in-Bad
returns-in-Bad g t c l m f enough =
    let a = c.args in
    let k = g.Q.Question.counting in
    let q = g.Q.Question.tests a.question.now in
    bad-here (level k q c.requires.stands a.odd a.tally l m f enough) (sym c.visit.ensures ∙ c.in-Some.is)
    c.bad_row.ensures (row_small c.requires.stands) (did k q c.visit-2.ensures c.in-Bad.is l)

pub returns-in-Finish : goal.returns-in-Finish
returns-in-Finish g t c l m f enough =
    let a = c.args in
    let k = g.Q.Question.counting in
    let q = g.Q.Question.tests a.question.now in
    yes-here (level k q c.requires.stands a.odd a.tally l m f enough) (sym c.visit.ensures ∙ c.in-Some.is)
    c.pack-in-Finish.ensures (did k q c.visit-2.ensures c.in-Finish.is l)

pub returns-in-Pass : goal.returns-in-Pass
returns-in-Pass g t c l m f enough =
    let a = c.args in
    let k = g.Q.Question.counting in
    let q = g.Q.Question.tests a.question.now in
    let crossed = c.in-Pass.crossed in
    over-here (level k q c.requires.stands a.odd a.tally l m f enough) (sym c.visit.ensures ∙ c.in-Some.is)
    (not (beq a.odd crossed)) c.over.ensures (one_more k a.odd crossed) (did k q c.visit-2.ensures c.in-Pass.is l)

pub returns-else-stopped : goal.returns-else-stopped
returns-else-stopped g t c l m f enough =
    let a = c.args in
    let k = g.Q.Question.counting in
    let q = g.Q.Question.tests a.question.now in
    let i = inside c.visit-2.ensures c.in-Halve.is in
    right-goes (level k q c.requires.stands a.odd a.tally l m f enough) (sym c.visit.ensures ∙ c.in-Some.is)
    (did k q c.visit-2.ensures c.in-Halve.is l) c.walk-left.result
    (c.walk-left.ensures l m (pred f) (omega arith)) (sym c.stopped.ensures ∙ c.if-stopped.false)
    c.tally_in-next.ensures c.walk.result (ap (count_of k) c.odd_in-next_odd.ensures)
    (c.walk.ensures l m (pred f) (omega arith))
