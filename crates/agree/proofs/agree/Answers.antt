-- `agree` tells the first refusal; where no check refuses, the walks answer.
use mathlib.Core.Path.{◌≡◌, sym, ◌∙◌, ap}
use mathlib.Core.List.{List}
use Prim.Native.Nat.{ℕ}
use native.Mathlib.Omega.{arith}
use lib.IntN.{ℤ}
use mir.Syntax.{w64}
use mir.Facts.{to_z-of_z}
use Rattle.rules.specs.declared.Line.TheVariants.{LineA, LineB}
use Rattle.rules.specs.declared.Tally.{Tally}
use Rattle.rules.specs.Sheet.{points_of}
use Rattle.rules.specs.Walk.{fresh}
use Rattle.rules.specs.Questions.{Asked, ask_all, on_all_near, agreed, agree_walk}
use Rattle.line.proofs.Stored.{stored-abs}
use Rattle.reach.proofs.Sizes.{distance-abs}
use Rattle.ending.specs.Ending.{end_in, tally_in}
use Rattle.agree_walk.specs.Asking.{asked}
use Rattle.agree_walk.proofs.Points.{is-near, stops}
use Rattle.agree.proofs.Replies.{agree-checked, agree-fine}
use Rattle.agree.proofs.agree.Goals as goal
use Rattle.agree.proofs.agree.Goals.{Start}

-- ---------------- the walks: A's points against B, and B's against A
module _ (s : Start) where
  abbrev points_a : List ℤ
  points_a = s.args.points_a.now

  abbrev table_a : List ℤ
  table_a = s.args.table_a.now

  abbrev points_b : List ℤ
  points_b = s.args.points_b.now

  abbrev table_b : List ℤ
  table_b = s.args.table_b.now

  abbrev first : Asked
  first =
      ask_all LineA points_a LineB points_b table_b s.args.distance 0 (points_of points_a) (fresh s.args.allowance)

  abbrev second : Tally → Asked
  second = ask_all LineB points_b LineA points_a table_a s.args.distance 0 (points_of points_b)

  -- the whole, from the start
  abbrev whole : Asked
  whole = agree_walk points_a table_a points_b table_b s.args.distance (fresh s.args.allowance)

  -- A's points are asked: with B's after them it is the whole
  after_first : {x : Asked} → x ≡ first → on_all_near x second ≡ whole
  unfolding agree_walk
  after_first e = ap (λ (x : Asked). on_all_near x second) e

  -- A's points are near B: what B's come to is the whole
  after_both : (at ending : ℕ) → asked LineA LineB at s.args.allowance ending ≡ first → end_in ending ≡ 2
      → (rest : Tally) → rest ≡ tally_in s.args.allowance ending
      → (i r : ℕ) → asked LineB LineA i rest.allowance r ≡ second rest
      → asked LineB LineA i s.args.allowance r ≡ whole
  after_both at ending told near rest goes_on i r q =
      ap (λ (y : Tally). asked LineB LineA i y.allowance r) (sym goes_on)
      ∙ q
      ∙ ap second goes_on
      ∙ (rw (is-near LineA LineB at s.args.allowance ending near) at (after_first told))

-- the distance is stored in 64 bits, and read back as it is
pub returns-in-Err : goal.returns-in-Err
returns-in-Err c =
    let d = to_z-of_z {w = w64} c.ranges.distance in
    c.refuses.ensures ∙ agree-checked _ _ _ _ _ _ (rw d at c.in-Err.ensures)

-- the lengths of both lines are fine, and the distance fits
pub ask_line-a-requires : goal.ask_line-a-requires
ask_line-a-requires c =
    let a = c.args in
    let passed = rw (to_z-of_z {w = w64} c.ranges.distance) at c.in_default.ensures in
    let fine = agree-fine a.points_a.now a.table_a.now a.points_b.now a.table_b.now a.distance passed in
    (omega (arith, fine.0.some-points), fine.1, stored-abs (distance-abs a.distance fine.2) tt)

pub ask_line-b-requires : goal.ask_line-b-requires
ask_line-b-requires c =
    let a = c.args in
    let passed = rw (to_z-of_z {w = w64} c.ranges.distance) at c.in_default.ensures in
    let fine = agree-fine a.points_a.now a.table_a.now a.points_b.now a.table_b.now a.distance passed in
    (omega (arith, fine.1.some-points), fine.0, stored-abs (distance-abs a.distance fine.2) tt)

-- A's points are asked, and one is not near
pub returns-then-end_in-ne-ENDED : goal.returns-then-end_in-ne-ENDED
returns-then-end_in-ne-ENDED c =
    let s = (goal.at.returns-then-end_in-ne-ENDED c).Start in
    let d = to_z-of_z {w = w64} c.ranges.distance in
    let r = c.ask_line-a.result in
    c.agreement.ensures
    ∙ ap (agreed s.args.allowance)
    (stops LineA LineB r.at s.args.allowance r.ending _ (λ q. c.if-end_in-ne-ENDED.true (c.end_in.ensures ∙ q))
    ∙ after_first s (rw (d, c.fresh.ensures) at (c.ask_line-a.ensures LineA LineB)))
    ∙ agree-checked _ _ _ _ _ _ (rw d at c.in_default.ensures)

-- and B's points are asked
pub returns : goal.returns
returns c =
    let s = (goal.at.returns c).Start in
    let d = to_z-of_z {w = w64} c.ranges.distance in
    let r = c.ask_line-a.result in
    let b = c.ask_line-b.result in
    let near : end_in r.ending ≡ 2 = omega (arith, c.end_in.ensures, c.if-end_in-ne-ENDED.false) in
    c.agreement-2.ensures
    ∙ ap (agreed s.args.allowance)
    (after_both s r.at r.ending (rw (d, c.fresh.ensures) at (c.ask_line-a.ensures LineA LineB)) near _
    c.tally_in-rest.ensures b.at b.ending (rw d at (c.ask_line-b.ensures LineB LineA)))
    ∙ agree-checked _ _ _ _ _ _ (rw d at c.in_default.ensures)
