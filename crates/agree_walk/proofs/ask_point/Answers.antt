-- `ask_point` checks the point, and then walks: one point of the definition; the distance is handed on as it is.
use mathlib.Core.Path.{◌≡◌, sym, ◌∙◌, ap}
use Prim.Native.Nat.{◌<◌}
use native.Mathlib.Omega.{arith}
use Rattle.integers.specs.Order.{T_true}
use Rattle.rules.specs.declared.Line.{Line}
use Rattle.rules.specs.declared.Point.{Point}
use Rattle.rules.specs.Sheet.{point, on_sheet}
use Rattle.rules.specs.Questions.{near_walk}
use Rattle.limits.proofs.OnSheets.{on-sheet}
use Rattle.line.proofs.Stored.{stored, stored-abs}
use Rattle.ending.specs.Ending.{end_in, bad_second, walked_in}
use Rattle.agree_walk.specs.Asking.{asked}
use Rattle.agree_walk.proofs.Points.{reads-off, heard, one_line, one-point}
use Rattle.agree_walk.proofs.ask_point.Goals as goal

pub returns-then-not-on_sheet : goal.returns-then-not-on_sheet
returns-then-not-on_sheet c line other =
    let a = c.args in
    let said = c.on_sheet.ensures ∙ ap (λ (p : Point). on_sheet p) c.point_at-z.ensures in
    ap (asked line other a.i a.tally.allowance) c.pack.ensures
    ∙ reads-off line other a.i a.tally.allowance a.tally.visits
    ∙ one-point line a.points.now other a.theirs.now.now a.table.now.now a.d a.i a.tally
    (sym said ∙ c.if-not-on_sheet.true)

pub ask-requires : goal.ask-requires
ask-requires c =
    let p = c.requires.1 in
    ((p.0, p.1, stored-abs p.2 tt), on-sheet _ (T_true (sym c.on_sheet.ensures ∙ c.if-not-on_sheet.false)))

pub returns : goal.returns
returns c line other =
    let a = c.args in
    let said = c.on_sheet.ensures ∙ ap (λ (p : Point). on_sheet p) c.point_at-z.ensures in
    let walked : (l m : Line) → walked_in tt tt l m a.tally.allowance c.ask.result
    ≡ near_walk l a.theirs.now.now a.table.now.now (point a.points.now a.i) a.d a.tally =
    λ l m. rw (c.point_at-z.ensures, stored c.requires.1.2 tt) at (c.ask.ensures l m) in
    let small : end_in c.ask.result < bad_second = one_line other a.tally.allowance c.ask.result (walked other) in
    heard line other a.i a.tally.allowance c.ask.result (λ q. omega arith) (walked other other)
    ∙ one-point line a.points.now other a.theirs.now.now a.table.now.now a.d a.i a.tally
    (sym said ∙ c.if-not-on_sheet.false)
