-- `check`: refused as a build, or by what is found from the root on.
use Rattle.std.proofs.Common.{arith, ℕ, ◌≡◌, sym, ap, ◌∙◌, List}
use mathlib.Core.Path.{refl}
use mathlib.Core.Option.{Option, none}
use lib.IntN.{ℤ}
use Rattle.rules.specs.declared.Refusal.{Refusal}
use Rattle.rules.specs.Sheet.{segments_of}
use Rattle.rules.specs.Reply.{or_else}
use Rattle.rules.specs.Build.{build_refusal}
use Rattle.rules.specs.Check.{table_fault, check_refusal}
use Rattle.table_truth.proofs.Refusals.{buildable}
use Rattle.row.proofs.Places.{root_stands}
use Rattle.checker.specs.Found.{found_fault}
use Rattle.checker.proofs.Level.{nothing-found, found-told}
use Rattle.checker.proofs.check.Goals as goal

-- what the checks of a build came to, and what stands in the table
told : (ps t : List ℤ) (o : Option Refusal) → o ≡ build_refusal ps t
    → or_else o (table_fault ps t) ≡ check_refusal ps t
unfolding check_refusal
told ps t o e = λ d. or_else (e d) (table_fault ps t)

pub returns-in_err-check : goal.returns-in_err-check
returns-in_err-check c =
    let ps = c.args.points.now in
    let t = c.args.table.now in
    let e = told ps t _ (c.in_err-check.ensures t refl) in grind (arith, e)

pub overflow_sub-last : goal.overflow_sub-last
overflow_sub-last c =
    omega (arith, (buildable _ _ (sym (c.in_ok-check.ensures c.args.table.now refl))).lengths.some-points)

pub check_node-at-requires : goal.check_node-at-requires
check_node-at-requires c =
    let b = buildable _ _ (sym (c.in_ok-check.ensures c.args.table.now refl)) in (root_stands b.lengths, b.on)

-- past the checks, what is found is what is at fault
past-checks : (ps t : List ℤ) (k : ℕ) → none ≡ build_refusal ps t → found_fault k ≡ table_fault ps t
    → found_fault k ≡ check_refusal ps t
past-checks ps t k e f = f ∙ told ps t none e

pub returns-then-at-eq0 : goal.returns-then-at-eq0
unfolding table_fault
returns-then-at-eq0 c =
    let ps = c.args.points.now in
    let t = c.args.table.now in
    let z : c.check_node-at.result ≡ 0 = omega arith in
    sym (ap found_fault z ∙ nothing-found)
    ∙ past-checks ps t _ (c.in_ok-check.ensures t refl) (c.check_node-at.ensures (segments_of ps) (omega arith))

pub returns : goal.returns
unfolding table_fault
returns c =
    let ps = c.args.points.now in
    let t = c.args.table.now in
    let told = sym (found-told c.check_node-at.result (omega arith))
    ∙ past-checks ps t _ (c.in_ok-check.ensures t refl) (c.check_node-at.ensures (segments_of ps) (omega arith)) in
    grind (arith, told)
