-- `from_roots` checks the row of A's root, then that of B's; roots with their boxes apart are one visit, others are
-- asked from there on.
use mathlib.Core.Path.{sym, ◌∙◌}
use Rattle.rules.specs.Questions.{boxes_apart}
use Rattle.meet.proofs.Roots.{root-says, root-box, bad-root-a, bad-root-b, apart-roots}
use Rattle.meet.proofs.from_roots.Goals as goal

pub returns-then-not-row_good : goal.returns-then-not-row_good
returns-then-not-row_good c =
    let said = root-says c.requires.0 c.row_good.ensures c.row_at-r.ensures in
    c.answer.ensures
    ∙ bad-root-a c.requires c.args.fresh said c.if-not-row_good.true c.bad_row_due.ensures

pub returns-then-not-row_good-2 : goal.returns-then-not-row_good-2
returns-then-not-row_good-2 c =
    let said-a = root-says c.requires.0 c.row_good.ensures c.row_at-r.ensures in
    let said-b = root-says c.requires.1 c.row_good-2.ensures c.row_at-q.ensures in
    c.answer-then-not-row_good-2.ensures
    ∙ bad-root-b c.requires c.args.fresh said-a c.if-not-row_good.false said-b c.if-not-row_good-2.true
    c.bad_second_due.ensures

pub boxes_apart-requires : goal.boxes_apart-requires
boxes_apart-requires c = (
  root-box c.requires.0 c.row_good.ensures c.if-not-row_good.false,
  root-box c.requires.1 c.row_good-2.ensures c.if-not-row_good-2.false,
)

pub returns-then-boxes_apart : goal.returns-then-boxes_apart
returns-then-boxes_apart c =
    let said-a = root-says c.requires.0 c.row_good.ensures c.row_at-r.ensures in
    let said-b = root-says c.requires.1 c.row_good-2.ensures c.row_at-q.ensures in
    let boxes = c.boxes_apart.ensures ∙ (λ i. boxes_apart (c.row_at-r.ensures i) (c.row_at-q.ensures i)) in
    c.at_once.ensures
    ∙ apart-roots c.requires c.args.fresh said-a c.if-not-row_good.false said-b c.if-not-row_good-2.false
    (sym boxes ∙ c.if-boxes_apart.true)
