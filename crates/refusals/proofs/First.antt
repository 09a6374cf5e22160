-- The first check that holds is the refusal that is told: one theorem over lists of checks, read at the build and at
-- any reply that checks come before.
use mathlib.Core.Path.{◌≡◌, refl, sym, ◌∙◌, ap, subst}
use mathlib.Core.Bool.{Bool, true, cond, ◌&&◌}
use mathlib.Core.List.{List, [], ◌∷◌}
use mathlib.Core.Logic.{◌↔◌, ◌≢◌}
use mathlib.Core.Option.{Option, none, some}
use Prim.Native.Nat.{ℕ, zero, suc, ◌≤◌, ◌<◌}
use native.Mathlib.Omega.{arith}
use lib.Dec.{T, ltb, ltb→lt}
use lib.IntN.{ℤ}
use mir.Facts.{and_yes}
use Rattle.integers.specs.Laws.{test-ind, option-ind}
use Rattle.rules.specs.declared.Refusal.{Refusal}
use Rattle.rules.specs.declared.Reply.{Reply}
use Rattle.rules.specs.Reply.{Check, early, first_refusal, or_refused, refuses, or_else}
use Rattle.rules.specs.Build.{build_refusal, build_checks}
use Rattle.visits.proofs.Checks.{clear_none, first-append}
use Rattle.visits.proofs.Tests.{never}
use Rattle.refusals.specs.Reason.{Reason}

first-reason : (ks : List Check) (f : Refusal) → first_refusal ks ≡ some f → Reason ks f
first-reason [] f e = never (cc)
first-reason (k ∷ ks) f e =
    test-ind (λ b. cond b (some (early k)) (first_refusal ks) ≡ some f → Reason (k ∷ ks) f) k.holds
    (λ h q. record { earlier = []; check = k; later = ks; parts = refl; clear = tt; holds = h; told = cc })
    (λ h q.
    let r = first-reason ks f q in record {
      earlier = k ∷ r.earlier;
      check = r.check;
      later = r.later;
      parts = ap (k ∷◌) r.parts;
      clear = (h, r.clear);
      holds = r.holds;
      told = r.told;
    }) e

reason-first : (ks : List Check) (f : Refusal) → Reason ks f → first_refusal ks ≡ some f
reason-first ks f r =
    ap first_refusal r.parts ∙ first-append r.earlier (r.check ∷ r.later)
    ∙ ap (λ (o : Option Refusal). or_else o (first_refusal (r.check ∷ r.later))) (clear_none r.earlier r.clear)
    ∙ ap (λ (b : Bool). cond b (some (early r.check)) (first_refusal r.later)) r.holds ∙ ap some (sym r.told)

-- a list of checks refuses exactly with the first check that holds
pub first-exactly : (ks : List Check) (f : Refusal) → (first_refusal ks ≡ some f) ↔ Reason ks f
first-exactly ks f = (first-reason ks f, reason-first ks f)

-- building refuses exactly with the first of its checks that holds
pub build-exactly : (ps t : List ℤ) (f : Refusal) → (build_refusal ps t ≡ some f) ↔ Reason (build_checks ps t) f
unfolding build_refusal
build-exactly ps t f = first-exactly (build_checks ps t) f

module _ (ks : List Check) (r : Reply) where
  -- a check's reason makes the reply
  pub reason-refuses : (f : Refusal) → Reason ks f → or_refused (first_refusal ks) r ≡ refuses f
  reason-refuses f h = ap (λ (o : Option Refusal). or_refused o r) (reason-first ks f h)

  -- where what comes after the checks does not have the number k, the reply has it exactly if the first check that
  -- holds has it
  pub number-exactly : (k : ℕ) → (first_refusal ks ≡ none → r.number ≢ k)
      → ((or_refused (first_refusal ks) r).number ≡ k) ↔ ((f : Refusal) × Reason ks f × (f.number ≡ k))
  number-exactly k late = (
    option-ind (λ o. (or_refused o r).number ≡ k → (f : Refusal) × Reason ks f × (f.number ≡ k)) (first_refusal ks)
        (λ e h. absurd (late e h)) (λ f e h. (f, first-reason ks f e, h)),
    λ h. ap (λ (q : Reply). q.number) (reason-refuses h.0 h.1) ∙ h.2,
  )

-- ---------------- a number above those of the checks

-- the numbers of checks are below k
abbrev pub below : ℕ → List Check → Bool
below k [] = true
below k (c ∷ cs) = ltb c.number k && below k cs

-- so is the number of the refusal
first_below : (k : ℕ) (cs : List Check) (f : Refusal) → T (below k cs) → first_refusal cs ≡ some f → f.number < k
first_below k [] f h e = never (cc)
first_below k (c ∷ cs) f h e =
    let p = and_yes (ltb c.number k) (below k cs) h in
    test-ind (λ b. cond b (some (early c)) (first_refusal cs) ≡ some f → f.number < k) c.holds
    (λ _ q. let s : early c ≡ f = cc in subst (λ (g : Refusal). g.number < k) s (ltb→lt _ _ p.0))
    (λ _. first_below k cs f p.1) e

-- a reply has no number above k where its checks' are below k and what comes after them has none above k
pub number-last : (k : ℕ) (cs : List Check) (r : Reply) → T (below k cs)
    → (first_refusal cs ≡ none → (j : ℕ) → 0 < j → r.number ≡ j → j ≤ k) → (or_refused (first_refusal cs) r).number ≤ k
number-last k cs r h late =
    option-ind (λ o. (or_refused o r).number ≤ k) (first_refusal cs)
    (λ e. zero-or-more r.number (λ p. late e r.number p refl))
    (λ f e. let m = first_below k cs f h e in omega arith)
  where
    zero-or-more : (j : ℕ) → (0 < j → j ≤ k) → j ≤ k
    zero-or-more zero f = omega arith
    zero-or-more (suc j) f = f (omega arith)

-- a reply with a number that is above those of its checks comes after them
pub after_read : (j k : ℕ) (cs : List Check) (r : Reply) (P : Reply → Type 0) → T (below j cs) → j ≤ k
    → (first_refusal cs ≡ none → r.number ≡ k → P r) → (or_refused (first_refusal cs) r).number ≡ k
    → P (or_refused (first_refusal cs) r)
after_read j k cs r P h l f =
    option-ind (λ o. (or_refused o r).number ≡ k → P (or_refused o r)) (first_refusal cs) f
    (λ g e q. let m = first_below j cs g h e in absurd (omega arith))
