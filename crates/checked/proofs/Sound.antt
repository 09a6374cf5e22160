-- Accepted exactly if sound: the checker finds nothing where the table is sound, and only there. And a table that the
-- builder wrote is accepted.
use mathlib.Core.Path.{◌≡◌, refl, sym, ap, ◌∙◌}
use mathlib.Core.Bool.{Bool, true, false, cond, ◌&&◌}
use mathlib.Core.List.{List}
use mathlib.Core.Option.{Option, none, some}
use Prim.Native.Nat.{ℕ, zero, suc}
use lib.Dec.{T}
use lib.IntN.{ℤ}
use mir.Facts.{and_yes}
use Rattle.integers.specs.Order.{T_true, yes-T}
use Rattle.rules.specs.declared.Node.{Node}
use Rattle.rules.specs.declared.Refusal.{Refusal}
use Rattle.rules.specs.declared.Row.{Row}
use Rattle.rules.specs.Sheet.{segments_of}
use Rattle.rules.specs.Tree.{row_at}
use Rattle.rules.specs.Rows.{good}
use Rattle.rules.specs.Reply.{or_else}
use Rattle.rules.specs.Questions.{root, leaf}
use Rattle.rules.specs.Build.{row_holds, sound_from, sound, build_refusal, built_table}
use Rattle.rules.specs.Check.{read_from, fault, row_fault, fault_from, table_fault, check_refusal}
use Rattle.visits.specs.Reached.{left_half, right_half}
use Rattle.visits.proofs.Tests.{never}
use Rattle.table_truth.proofs.Refusals.{none-refused}
use Rattle.table_truth.proofs.Sound.{built-sound}
use Rattle.table_truth.proofs.Table.{built-buildable}

-- ---------------- nothing is found exactly where both of two find nothing

abbrev nothing : Option Refusal → Bool
nothing none = true
nothing (some f) = false

nothing-both : (a b : Option Refusal) → nothing (or_else a b) ≡ nothing a && nothing b
nothing-both none b = refl
nothing-both (some f) b = refl

nothing-none : (a : Option Refusal) → nothing a ≡ true → a ≡ none
nothing-none none e = refl
nothing-none (some f) e = never (cc)

pub both-none : (a b : Option Refusal) → or_else a b ≡ none → (a ≡ none) × (b ≡ none)
both-none none b e = (refl, e)
both-none (some f) b e = never (cc)

-- ---------------- the checker finds nothing exactly where the table is sound

module _ (ps : List ℤ) where
  row-nothing : (r : Row) (n : Node)
      → nothing (row_fault ps r n) ≡ good ps r n.first n.last && row_holds ps r n.first n.last
  unfolding row_fault
  row-nothing r n = tests (good ps r n.first n.last) (row_holds ps r n.first n.last)
    where
      tests : (g h : Bool) → nothing (cond g (cond h none (fault 22 n)) (fault 21 n)) ≡ g && h
      tests true true = refl
      tests true false = refl
      tests false h = refl

  -- a row with no fault is good and holds its run
  pub none-fine : (r : Row) (n : Node) → row_fault ps r n ≡ none
      → T (good ps r n.first n.last) × T (row_holds ps r n.first n.last)
  none-fine r n e =
      and_yes (good ps r n.first n.last) (row_holds ps r n.first n.last)
      (T_true (sym (row-nothing r n) ∙ ap nothing e))

module _ (ps t : List ℤ) where
  leaf-nothing : (l : Bool) (a : Option Refusal) → nothing (cond l none a) ≡ cond l true (nothing a)
  leaf-nothing true a = refl
  leaf-nothing false a = refl

  nothing-sound : (f : ℕ) (n : Node) → nothing (fault_from (read_from t) f ps n) ≡ sound_from f ps t n
  unfolding fault_from sound_from
  nothing-sound zero n = refl
  nothing-sound (suc f) n =
      let left = fault_from (read_from t) f ps (left_half t n) in
      let right = fault_from (read_from t) f ps (right_half t n) in
      let r = row_at t n.row in
      nothing-both (row_fault ps r n) (cond (leaf n) none (or_else left right))
      ∙ (λ i. row-nothing ps r n i && leaf-nothing (leaf n) (or_else left right) i)
      ∙ ap (λ (b : Bool). good ps r n.first n.last && row_holds ps r n.first n.last && cond (leaf n) true b)
      (nothing-both left right ∙ (λ i. nothing-sound f (left_half t n) i && nothing-sound f (right_half t n) i))

  -- what is accepted can be built, and is sound
  accepted-read : check_refusal ps t ≡ none → (build_refusal ps t ≡ none) × (table_fault ps t ≡ none)
  unfolding check_refusal
  accepted-read e = both-none (build_refusal ps t) (table_fault ps t) e

  pub accepted-buildable : check_refusal ps t ≡ none → build_refusal ps t ≡ none
  accepted-buildable e = (accepted-read e).0

  fault-sound : nothing (table_fault ps t) ≡ sound ps t
  unfolding table_fault sound
  fault-sound = nothing-sound (segments_of ps) (root ps)

  pub accepted-sound : check_refusal ps t ≡ none → T (sound ps t)
  accepted-sound e = T_true (sym fault-sound ∙ ap nothing (accepted-read e).1)

  -- what can be built, and is sound, is accepted
  pub sound-accepted : build_refusal ps t ≡ none → T (sound ps t) → check_refusal ps t ≡ none
  unfolding check_refusal
  sound-accepted b h =
      let e = nothing-none (table_fault ps t) (fault-sound ∙ yes-T (sound ps t) h) in λ i. or_else (b i) (e i)

-- a table that the builder wrote is accepted
pub built-accepted : (ps t : List ℤ) → build_refusal ps t ≡ none → check_refusal ps (built_table ps t) ≡ none
built-accepted ps t b =
    let u = built_table ps t in
    sound-accepted ps u (none-refused ps u (built-buildable ps t b)) (built-sound ps t b)
