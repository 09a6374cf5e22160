-- One level of the written check: what is found at a node's own row, and then in its halves.
use mathlib.Core.Path.{◌≡◌, refl, sym, ◌∙◌}
use mathlib.Core.Bool.{cond}
use mathlib.Core.List.{List}
use mathlib.Core.Option.{Option, none, some}
use Prim.Native.Nat.{ℕ, zero, suc, pred, ◌+◌, ◌/◌, ◌%◌, ◌≤◌, ◌<◌}
use native.Mathlib.Omega.{arith}
use borrow.Author.Tests.{ne_eqb, le-leb, lt-leb}
use lib.IntN.{ℤ}
use Rattle.rules.specs.declared.Line.TheVariants.{LineA}
use Rattle.rules.specs.declared.Node.{Node}
use Rattle.rules.specs.declared.Refusal.{Refusal}
use Rattle.rules.specs.Reply.{or_else}
use Rattle.rules.specs.Questions.{leaf, left_of, right_of, split_in}
use Rattle.rules.specs.Check.{Reader, row_fault, fault_from}
use Rattle.checker.specs.Found.{past, found_fault}

-- ---------------- what is found

pub nothing-found : found_fault 0 ≡ none
unfolding found_fault
nothing-found = refl

pub found-told : (k : ℕ) → 0 < k
    → found_fault k ≡ some (record { number = k % past; line = LineA; place = k / past; visits = 0 })
unfolding found_fault
found-told k h = simp (ne_eqb k 0 (omega arith))

-- what is found stops the check
pub found-stops : (k : ℕ) {own : Option Refusal} (later : Option Refusal) → 0 < k → found_fault k ≡ own
    → found_fault k ≡ or_else own later
found-stops k later h e = found-told k h ∙ sym (λ d. or_else ((sym e ∙ found-told k h) d) later)

-- ---------------- one level

or-none : {A : Type 0} (o : Option A) → or_else o none ≡ o
or-none none = refl
or-none (some a) = refl

module _ (read : Reader) (ps : List ℤ) (n : Node) where
  abbrev half : ℕ → (Node → ℕ → Node) → Option Refusal
  half f of = fault_from read f ps (of n (split_in (read n)))

  -- where a node has a segment there is a level
  whole : (f : ℕ) → n.first < n.last → n.last ≤ f + n.first
      → fault_from read f ps n
      ≡ or_else (row_fault ps (read n) n)
      (cond (leaf n) none (or_else (half (pred f) left_of) (half (pred f) right_of)))
  unfolding fault_from
  whole zero l e = absurd (omega arith)
  whole (suc f) l e = refl

  pub leaf-level : (f : ℕ) → n.first < n.last → n.last ≤ f + n.first → n.last ≤ n.first + 1
      → fault_from read f ps n ≡ row_fault ps (read n) n
  leaf-level f l e h =
      whole f l e
      ∙ (λ d. or_else (row_fault ps (read n) n)
      (cond (le-leb n.last (n.first + 1) h d) none (or_else (half (pred f) left_of) (half (pred f) right_of))))
      ∙ or-none (row_fault ps (read n) n)

  pub inner-level : (f : ℕ) → n.first < n.last → n.last ≤ f + n.first → n.first + 1 < n.last
      → fault_from read f ps n
      ≡ or_else (row_fault ps (read n) n) (or_else (half (pred f) left_of) (half (pred f) right_of))
  inner-level f l e h =
      whole f l e
      ∙ (λ d. or_else (row_fault ps (read n) n)
      (cond (lt-leb n.last (n.first + 1) h d) none (or_else (half (pred f) left_of) (half (pred f) right_of))))
