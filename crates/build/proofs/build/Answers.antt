-- `build`: refused, or the rows of the root.
use Rattle.std.proofs.Common.{arith, ◌≡◌, sym, ap, ◌∙◌, List, length, Result, Ok}
use mathlib.Core.Path.{refl}
use mathlib.Core.Option.{none}
use native.Mathlib.Nat.{sub-zero}
use lib.IntN.{ℤ}
use Rattle.rules.specs.declared.Refusal.{Refusal}
use Rattle.rules.specs.Sheet.{segments_of}
use Rattle.rules.specs.Reply.{checked_refusal}
use Rattle.rules.specs.Build.{build_refusal, table_of}
use Rattle.table_truth.specs.Buildable.{Buildable}
use Rattle.table_truth.proofs.Refusals.{buildable}
use Rattle.table_truth.proofs.Table.{built-refused, built-whole}
use Rattle.build.proofs.build.Goals as goal

pub returns-in_err-check-clause-table_after : goal.returns-in_err-check-clause-table_after
returns-in_err-check-clause-table_after c =
    let t = c.args.table.now in sym (built-refused c.args.points.now t _ (sym (c.in_err-check.ensures t refl)))

-- what checks say of each table of that length, where they refuse nothing
module _ (ps t : List ℤ) {r : Result Unit Refusal}
    (told : (t' : List ℤ) → length t' ≡ length t → checked_refusal r ≡ build_refusal ps t') (ok : r ≡ Ok tt) where
  passed : build_refusal ps t ≡ none
  passed = sym (told t refl) ∙ ap checked_refusal ok

  fine : Buildable ps t
  fine = buildable ps t passed

pub overflow_sub-last : goal.overflow_sub-last
overflow_sub-last c =
    let ok : c.check.result ≡ Ok tt = grind arith in
    omega (arith, (fine c.args.points.now c.args.table.now c.check.ensures ok).lengths.some-points)

pub build_node-requires : goal.build_node-requires
build_node-requires c =
    let ok : c.check.result ≡ Ok tt = grind arith in
    let b = fine c.args.points.now c.args.table.now c.check.ensures ok in
    let l = b.lengths in (
      omega (arith, l.some-points),
      omega (arith, l.not_more),
      omega (arith, l.even, l.some-points),
      b.on,
      omega (arith, l.table-long, l.some-points),
    )

pub returns-clause-table_after : goal.returns-clause-table_after
unfolding table_of
returns-clause-table_after c =
    let ps = c.args.points.now in
    let t = c.args.table.now in
    let ok : c.check.result ≡ Ok tt = grind arith in
    rw (built-whole ps t (passed ps t c.check.ensures ok))
    (rw (sub-zero (segments_of ps)) at (c.build_node.ensures (segments_of ps) (omega arith)))
