-- `side_of_ring` goes by the same tests as the definition.
use mathlib.Core.Path.{◌≡◌, sym, ◌∙◌, ap}
use mathlib.Core.Bool.{Bool, true, false}
use Prim.Native.Nat.{ℕ, ◌≤◌}
use borrow.Author.Rules.{rules}
use Rattle.rules.specs.declared.Line.TheVariants.{LineA}
use Rattle.rules.specs.declared.Word.TheVariants.{INSIDE, OUTSIDE, ON}
use Rattle.rules.specs.Reply.{says, refuses}
use Rattle.rules.specs.Questions.{side_of_ring}
use Rattle.rules.specs.Walk.{Walked}
use Rattle.ending.specs.Ending.{end_in, bad_row, walked_in}
use Rattle.ending.proofs.Ends.{is-even, is_odd, is-ended, is-spent, is-bad}
use Rattle.inside.proofs.side_of_ring.Statement.{statement}
use Rattle.inside.proofs.side_of_ring.Tie as tie

-- what is read of the number, and what it says of the side
module _ (c : tie.After-visits_in-visits) where
  abbrev read : Walked Bool
  read = walked_in false true LineA LineA c.before.before.args.allowance c.before.before.args.ending

  said : {w : Walked Bool} → read ≡ w
      → side_of_ring c.before.before.args.allowance w ≡ side_of_ring c.before.before.args.allowance read
  said e = sym (ap (side_of_ring c.before.before.args.allowance) e)

  end_read : {e : ℕ} → c.before.end_in-end.result ≡ e → end_in c.before.before.args.ending ≡ e
  end_read e = sym c.before.end_in-end.ensures ∙ e

-- a walk that is over has an odd count or an even one
returns : tie.Need-returns-then-end-eq-ODD
returns c =
    let t = c.before in
    let v = t.before.before in
    c.says.ensures
    ∙ ap (says INSIDE) v.visits_in-visits.ensures
    ∙ said v (is_odd false true LineA LineA _ _ (end_read v t.if-end-eq-ODD.true))

even : (c : tie.Else-end-eq-ODD) → let s = c.before.before.before.before in end_in s.args.ending ≡ 0
even c = search rules

returns-2 : tie.Need-returns-then-end-lt-ENDED
returns-2 c =
    let v = c.before.before.before in
    c.says-then-end-lt-ENDED.ensures
    ∙ ap (says OUTSIDE) v.visits_in-visits.ensures
    ∙ said v (is-even false true LineA LineA _ _ (even c.before))

returns-3 : tie.Need-returns-then-end-eq-ENDED
returns-3 c =
    let t = c.before in
    let v = t.before.before in
    c.says-then-end-eq-ENDED.ensures
    ∙ ap (says ON) v.visits_in-visits.ensures
    ∙ said v (is-ended false true LineA LineA _ _ (end_read v t.if-end-eq-ENDED.true))

returns-4 : tie.Need-returns-then-end-eq-SPENT
returns-4 c =
    let t = c.before in
    let v = t.before.before.before in
    c.says-then-end-eq-SPENT.ensures ∙ said v (is-spent false true LineA LineA _ _ (end_read v t.if-end-eq-SPENT.true))

-- what is none of these is a bad row
bad : (c : tie.Else-end-eq-SPENT) → let s = c.before.before.before.before.before in bad_row ≤ end_in s.args.ending
bad c = search rules

returns-5 : tie.Need-returns
returns-5 c =
    let t = c.before.before in
    let v = t.before.before.before in
    c.refuses.ensures ∙ ap refuses c.before.refusal.ensures ∙ said v (is-bad false true LineA LineA _ _ (bad t))

pub side_of_ring_spec : {M : Type 1} → statement M
side_of_ring_spec =
    tie.close (tie.spec
    (search rules) (search rules) (search rules) returns (search rules) returns-2 (search rules) returns-3
    (search rules) returns-4 (λ c κs. bad c) (search rules) returns-5)
