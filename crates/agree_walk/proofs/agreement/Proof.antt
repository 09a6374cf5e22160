-- `agreement` goes by how the asking ended, as its reading does.
use mathlib.Core.Path.{sym, ◌∙◌, ap}
use Prim.Native.Nat.{◌<◌, ◌≤◌}
use native.Mathlib.Omega.{arith}
use Rattle.rules.specs.declared.Word.TheVariants.{YES}
use Rattle.rules.specs.Reply.{says, refuses, disagrees}
use Rattle.rules.specs.Questions.{agreed}
use Rattle.ending.specs.Ending.{end_in, bad_row}
use Rattle.agree_walk.specs.Asking.{off_sheet}
use Rattle.agree_walk.proofs.Points.{is-not-near, is-near, is-unasked, is-off, is-refused}
use borrow.Author.Rules.{rules}
use Rattle.agree_walk.proofs.agreement.Statement.{statement}
use Rattle.agree_walk.proofs.agreement.Tie as tie

returns-2 : tie.Need-returns-then-end-eq-ENDED
returns-2 c =
    let t = c.before in
    let a = t.before.before.before.before.args in
    let e = t.before.before.before.end_in-end.ensures in
    c.says.ensures
    ∙ ap (says YES) t.before.before.visits_in-visits.ensures
    ∙ sym (ap (agreed a.allowance)
    (is-near a.line a.other a.stopped.at a.allowance a.stopped.ending (sym e ∙ t.if-end-eq-ENDED.true)))

returns-3 : tie.Need-returns-then-end-eq-SPENT
returns-3 c =
    let t = c.before in
    let a = t.before.before.before.before.before.args in
    let asked = t.before.before.before.before in
    let e = asked.end_in-end.ensures in
    c.says-then-end-eq-SPENT.ensures
    ∙ sym (ap (agreed a.allowance)
    (is-unasked a.line a.other a.stopped.at a.allowance a.stopped.ending (sym e ∙ t.if-end-eq-SPENT.true)))

returns-4 : tie.Need-returns-then-end-eq-OFF
returns-4 c =
    let t = c.before in
    let v = t.before.before.before.before in
    let a = v.before.before.args in
    let e = v.before.end_in-end.ensures in
    c.refuses.ensures
    ∙ ap (λ k. refuses (off_sheet a.line a.stopped.at k)) v.visits_in-visits.ensures
    ∙ sym (ap (agreed a.allowance)
    (is-off a.line a.other a.stopped.at a.allowance a.stopped.ending (sym e ∙ t.if-end-eq-OFF.true)))

returns-5 : tie.Need-returns
returns-5 c =
    let k = c.before.before in
    let a = k.before.before.before.before.before.before.args in
    let asked = k.before.before.before.before.before in
    let e = asked.end_in-end.ensures in
    let big : bad_row ≤ end_in a.stopped.ending =
    omega (arith, e, k.before.before.if-end-eq-ENDED.false, k.before.if-end-eq-SPENT.false) in
    c.refuses-2.ensures
    ∙ ap refuses c.before.refusal.ensures
    ∙ sym (ap (agreed a.allowance)
    (is-refused a.line a.other a.stopped.at a.allowance a.stopped.ending big
    (λ q. k.if-end-eq-OFF.false (e ∙ q))))

pub agreement_spec : {M : Type 1} → statement M
agreement_spec =
    tie.close (tie.spec
    (search rules) (search rules) (search rules)
    (λ c.
    let t = c.before in
    let a = t.before.before.before.args in
    let e = t.before.before.end_in-end.ensures in
    let small : end_in a.stopped.ending < 2 = omega (arith, e) in
    c.disagrees.ensures
    ∙ ap (disagrees a.line a.stopped.at) t.before.visits_in-visits.ensures
    ∙ sym (ap (agreed a.allowance)
    (is-not-near a.line a.other a.stopped.at a.allowance a.stopped.ending small)))
    (search rules) returns-2 (search rules) returns-3
    (search rules) returns-4 (search rules) (search rules) returns-5)
