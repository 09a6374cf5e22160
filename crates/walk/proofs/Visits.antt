-- What one visit comes to, by the tests that the code makes in order: the frame of the row, then the rule of a leaf or
-- of a split.
use mathlib.Core.Path.{◌≡◌, refl, sym, ◌∙◌, subst}
use mathlib.Core.Bool.{Bool, true, false, cond, ◌&&◌}
use mathlib.Core.List.{List}
use Prim.Native.Nat.{ℕ}
use borrow.Author.Tests.{leb-false}
use lib.IntN.{ℤ}
use mir.Facts.{and_yes}
use Rattle.integers.specs.Order.{T_true}
use Rattle.rules.specs.declared.Line.{Line}
use Rattle.rules.specs.declared.Node.{Node}
use Rattle.rules.specs.declared.Point.{Point}
use Rattle.rules.specs.declared.Row.{Row}
use Rattle.rules.specs.Plane.{direction}
use Rattle.rules.specs.Tree.{row_at}
use Rattle.rules.specs.Rows.{range_good, strip_good, box_good, good}
use Rattle.rules.specs.Walk.{refuse, finish, pass, halve}
use Rattle.rules.specs.Questions.{read_row, leaf, split_in, left_of, right_of, start_of, end_of, heading_of}
use Rattle.visits.specs.Nodes.{HoldsStart}
use Rattle.visits.proofs.Nodes.{good-inner, strip-read}
use Rattle.row.specs.Parts.{frame_good, leaf_fits, split_fits}
use Rattle.row.specs.Stands.{EndsOn}
use Rattle.row.proofs.Parts.{between-parts}
use Rattle.walk.specs.Tests.{Tests, Counting}
use Rattle.walk.specs.Steps.{step_visit, step_by, leaf_step, inner_step, visit_step, SplitsInside, Visits}
use Rattle.walk.specs.Walks.{visit_of}
use Rattle.walk.specs.declared.Step.{Step}
use Rattle.walk.specs.declared.Step.TheVariants.{Bad, Finish, Pass, Halve}

-- the strip of a good frame holds its start
pub holds-start : (r : Row) (first last : ℕ) → frame_good r first last ≡ true → HoldsStart r
holds-start r first last e =
    let f = and_yes (range_good r first last) (strip_good r && box_good r) (T_true e) in
    strip-read r (and_yes (strip_good r) (box_good r) f.1).0

module _ (q : Tests) (ps t : List ℤ) (n : Node) where
  abbrev row : Row
  row = row_at t n.row

  abbrev a : Point
  a = start_of ps n

  abbrev b : Point
  b = end_of ps n

  pub row-bad : good ps row n.first n.last ≡ false → Bad ≡ visit_step q ps t n
  row-bad e = sym (λ i. step_by q row a b (e i) (leaf n))

  -- what is halved has a good row
  visits : {s : Step} → s ≡ visit_step q ps t n → Visits q ps t n s
  visits e = record {
    does = e;
    inside = subst (SplitsInside n.first n.last) (sym e)
        (by (good ps row n.first n.last) (leaf n) (q.dismisses row a (direction a b)) (q.meets a b) refl refl);
  }
    where
      by : (is_good is_leaf dismissed met : Bool) → good ps row n.first n.last ≡ is_good → leaf n ≡ is_leaf
          → SplitsInside n.first n.last
          (cond is_good
          (cond dismissed (Pass (q.crosses a b))
          (cond is_leaf (cond met Finish (Pass (q.crosses a b))) (Halve (split_in row))))
          Bad)
      by true true true met g e = tt
      by true true false true g e = tt
      by true true false false g e = tt
      by true false true met g e = tt
      by true false false met g e = good-inner ps t n (T_true g) (leb-false _ _ e)
      by false is_leaf dismissed met g e = tt

  -- a node that begins and ends on the sheet, by what was read of its row and its points
  module _ (on : EndsOn ps n) {r : Row} (row_is : r ≡ row) where
    fine : {framed end : Bool} → frame_good r n.first n.last ≡ framed → leaf n ≡ end
        → good ps row n.first n.last ≡ framed && cond end (leaf_fits row a b) (split_fits row n.first n.last)
    fine f e =
        between-parts ps row n.first n.last on.start-on on.end_on
        ∙ (λ i. (sym (λ j. frame_good (row_is j) n.first n.last) ∙ f) i
        && cond (e i) (leaf_fits row a b) (split_fits row n.first n.last))

    pub frame-bad : frame_good r n.first n.last ≡ false → Visits q ps t n Bad
    frame-bad f = visits (row-bad (fine f refl))

    module _ {from to : Point} (from_is : from ≡ a) (to_is : to ≡ b) (f : frame_good r n.first n.last ≡ true) where
      pub leaf-visit : {s : Step} → leaf n ≡ true → s ≡ leaf_step q r from to → Visits q ps t n s
      leaf-visit e is =
          visits
          (is ∙ (λ i. leaf_step q (row_is i) (from_is i) (to_is i)) ∙ sym (λ i. step_by q row a b (fine f e i) (e i)))

      pub inner-visit : {s : Step} → leaf n ≡ false → s ≡ inner_step q r n.first n.last from to → Visits q ps t n s
      inner-visit e is =
          visits
          (is ∙ (λ i. inner_step q (row_is i) n.first n.last (from_is i) (to_is i))
          ∙ sym (λ i. step_by q row a b (fine f e i) (e i)))

-- what a visit does, as `rules` writes it: by its row, whether that dismisses the node, and the exact test of a leaf
pub written : {S : Type 0} (k : Counting S) (q : Tests) (ps t : List ℤ) (l : Line) (n : Node)
    → visit_of k q ps t l n
    ≡ read_row l ps t n λ r.
    cond (q.dismisses r (start_of ps n) (heading_of ps n)) (pass (k.after (q.crosses (start_of ps n) (end_of ps n))))
    (cond (leaf n)
    (cond (q.meets (start_of ps n) (end_of ps n)) finish (pass (k.after (q.crosses (start_of ps n) (end_of ps n)))))
    (halve (left_of n (split_in r)) (right_of n (split_in r))))
written k q ps t l n =
    by (good ps (row_at t n.row) n.first n.last)
    (q.dismisses (row_at t n.row) (start_of ps n) (heading_of ps n)) (leaf n)
    (q.meets (start_of ps n) (end_of ps n))
  where
    crossed : Bool
    crossed = q.crosses (start_of ps n) (end_of ps n)

    split_at : ℕ
    split_at = split_in (row_at t n.row)

    by : (is_good dismissed is_leaf met : Bool)
        → step_visit k.after l n
        (cond is_good
        (cond dismissed (Pass crossed) (cond is_leaf (cond met Finish (Pass crossed)) (Halve split_at))) Bad)
        ≡ cond is_good
        (cond dismissed (pass (k.after crossed))
        (cond is_leaf (cond met finish (pass (k.after crossed))) (halve (left_of n split_at) (right_of n split_at))))
        (refuse 10 l n.row)
    by false dismissed is_leaf met = refl
    by true true is_leaf met = refl
    by true false true true = refl
    by true false true false = refl
    by true false false met = refl
