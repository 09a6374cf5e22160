-- `answer` goes by the same tests as the definition.
use mathlib.Core.Path.{◌≡◌, refl, sym, ◌∙◌, ap}
use mathlib.Core.Bool.{Bool, true, false}
use Prim.Native.Nat.{ℕ, ◌<◌, ◌≤◌}
use native.Mathlib.Omega.{arith}
use borrow.Author.Rules.{rules}
use borrow.Author.Tests.{eqb-true, eqb-false}
use lib.Dec.{eqb}
use Rattle.rules.specs.declared.Line.TheVariants.{LineA, LineB}
use Rattle.rules.specs.declared.Word.TheVariants.{NO, YES}
use Rattle.rules.specs.Reply.{says, refuses}
use Rattle.rules.specs.Questions.{Nothing, yes_or_no}
use Rattle.rules.specs.Walk.{Walked}
use Rattle.ending.specs.Ending.{visits_in, end_in, bad_row, walked_in}
use Rattle.ending.proofs.Ends.{is-even, is_odd, is-ended, is-spent, is-bad}
use Rattle.ending.proofs.answer.Statement.{statement}
use Rattle.ending.proofs.answer.Tie as tie

-- what is below 2 is 0 or 1: over, whatever the count
no : (allowance r : ℕ) → end_in r < 2 → yes_or_no allowance (walked_in tt tt LineA LineB allowance r) ≡ says NO (visits_in r)
no allowance r small = by (eqb (end_in r) 0) refl
  where
    by : (b : Bool) → eqb (end_in r) 0 ≡ b
        → yes_or_no allowance (walked_in tt tt LineA LineB allowance r) ≡ says NO (visits_in r)
    by true e = ap (yes_or_no allowance) (is-even tt tt LineA LineB allowance r (eqb-true (end_in r) 0 e))
    by false e =
        let some = eqb-false (end_in r) 0 e in
        ap (yes_or_no allowance) (is_odd tt tt LineA LineB allowance r (omega (arith, some)))

-- how it ended, as it is read of the number, and what that says of the reply
module _ (c : tie.After-end_in-end) where
  abbrev allowance : ℕ
  allowance = c.before.args.allowance

  abbrev number : ℕ
  number = c.before.args.ending

  ended_at : {e : ℕ} → c.end_in-end.result ≡ e → end_in number ≡ e
  ended_at e = sym c.end_in-end.ensures ∙ e

  said : {w : Walked Nothing} → walked_in tt tt LineA LineB allowance number ≡ w
      → yes_or_no allowance w ≡ yes_or_no allowance (walked_in tt tt LineA LineB allowance number)
  said e = sym (ap (yes_or_no allowance) e)

returns : tie.Need-returns-then-end-lt-ENDED
returns c =
    let k = c.before.before.before in
    let small : end_in (number k) < 2 = omega (arith, k.end_in-end.ensures, c.before.before.if-end-lt-ENDED.true) in
    c.says.ensures ∙ ap (says NO) c.before.visits_in.ensures ∙ sym (no (allowance k) (number k) small)

returns-2 : tie.Need-returns-then-end-eq-ENDED
returns-2 c =
    let t = c.before.before in
    let k = t.before.before in
    c.says-then-end-eq-ENDED.ensures
    ∙ ap (says YES) c.before.visits_in-then-end-eq-ENDED.ensures
    ∙ said k (is-ended tt tt LineA LineB (allowance k) (number k) (ended_at k t.if-end-eq-ENDED.true))

returns-3 : tie.Need-returns-then-end-eq-SPENT
returns-3 c =
    let t = c.before in
    let k = t.before.before.before in
    c.says-then-end-eq-SPENT.ensures
    ∙ said k (is-spent tt tt LineA LineB (allowance k) (number k) (ended_at k t.if-end-eq-SPENT.true))

-- what is none of these is a bad row
bad : (c : tie.Else-end-eq-SPENT) → let s = c.before.before.before.before in bad_row ≤ end_in s.args.ending
bad c = search rules

returns-4 : tie.Need-returns
returns-4 c =
    let t = c.before.before in
    let k = t.before.before.before in
    c.refuses.ensures
    ∙ ap refuses c.before.refusal.ensures
    ∙ said k (is-bad tt tt LineA LineB (allowance k) (number k) (bad t))

pub answer_spec : {M : Type 1} → statement M
answer_spec =
    tie.close (tie.spec
    (search rules) (search rules) (search rules) returns (search rules) (search rules) returns-2 (search rules)
    returns-3 (λ c κs. bad c) (search rules) returns-4)
