-- What needs a number of visits: `go` takes a tally; with that many visits left it comes to `end` of the tally after
-- them, with fewer it stops. Two such, one after the other, need the sum.
use Rattle.std.specs.Prelude.{Some, None}
use mathlib.Core.Path.{◌≡◌, refl, sym, ◌∙◌, ap}
use Prim.Native.Nat.{ℕ, ◌+◌, ◌≤◌, ◌<◌}
use native.Mathlib.Nat.{add_assoc, add-zero}
use native.Mathlib.Decide.{dec_le}
use native.Mathlib.Omega.{arith}
use Rattle.integers.specs.Laws.{cond_ind}
use lib.Dec.{ltb, ltb→lt, nltb→le}
use Rattle.rules.specs.declared.Tally.{Tally}
use Rattle.rules.specs.Walk.{next}

-- the tally after k more visits
abbrev pub after : ℕ → Tally → Tally
after k y = record { allowance = y.allowance; visits = y.visits + k }

-- from a tally that is not overdrawn, `go` needs k visits
pub record Needs {R : Type 0} (stop : R) (go end : Tally → R) (k : ℕ) : Type 0 where
  pub given : (y : Tally) → y.visits + k ≤ y.allowance → go y ≡ end (after k y)
  pub short : (y : Tally) → y.visits ≤ y.allowance → y.allowance < y.visits + k → go y ≡ stop

-- what visits nothing
pub at_once : {R : Type 0} (stop : R) (go : Tally → R) → Needs stop go go 0
at_once stop go = record {
  given = λ y h. ap go (λ i. record { allowance = y.allowance; visits = sym (add-zero y.visits) i });
  short = λ y h l. absurd (omega arith);
}

-- one visit
pub next-needs : Needs None next Some 1
next-needs = record {
  given = λ y h.
      cond_ind (ltb y.visits y.allowance) (Some (after 1 y)) None (λ m. m ≡ Some (after 1 y)) (λ t. refl)
      (λ t. let l : y.allowance ≤ y.visits = nltb→le _ _ t in absurd (omega arith));
  short = λ y h l.
      cond_ind (ltb y.visits y.allowance) (Some (after 1 y)) None (λ m. m ≡ None)
      (λ t. let m : y.visits < y.allowance = ltb→lt _ _ t in absurd (omega arith)) (λ t. refl);
}

module _ {R R' : Type 0} {stop : R} {stop' : R'} {go end : Tally → R} {k : ℕ} where
  -- what goes on from the end with `go'`, and does not go on from a stop, needs the visits of both
  pub then-needs : {go' end' : Tally → R'} {j : ℕ} (on : R → R') → on stop ≡ stop' → ((y : Tally) → on (end y) ≡ go' y)
      → Needs stop go end k → Needs stop' go' end' j → Needs stop' (λ y. on (go y)) end' (k + j)
  then-needs {end' = end'} {j = j} on stops goes a b = record {
    given = λ y h.
        ap on (a.given y (omega arith)) ∙ goes (after k y) ∙ b.given (after k y) (omega arith)
        ∙ ap end' (λ i. record { allowance = y.allowance; visits = add_assoc y.visits k j i });
    short = λ y h l. elim (dec_le (y.visits + k) y.allowance) [
      | yes p ↦ ap on (a.given y p) ∙ goes (after k y) ∙ b.short (after k y) p (omega arith)
      | no p ↦ ap on (a.short y h (omega arith)) ∙ stops
    ];
  }

  -- what reads the end as `end'`, and a stop as a stop, needs no more
  pub read-needs : {end' : Tally → R'} (on : R → R') → on stop ≡ stop' → ((y : Tally) → on (end y) ≡ end' y)
      → Needs stop go end k → Needs stop' (λ y. on (go y)) end' k
  read-needs on stops reads a =
      record {
        given = λ y h. ap on (a.given y h) ∙ reads (after k y);
        short = λ y h l. ap on (a.short y h l) ∙ stops;
      }

-- what has an outcome, after at most so many visits; `told` tells an outcome with the tally at its end
pub record Settled {R O : Type 0} (stop : R) (told : O → Tally → R) (go : Tally → R) (most : ℕ) : Type 0 where
  pub outcome : O
  pub needs : ℕ
  pub bounded : needs ≤ most
  pub exact : Needs stop go (told outcome) needs

module _ {R O : Type 0} {stop : R} {told : O → Tally → R} where
  -- an outcome that is told without a visit
  pub at-once-settled : (o : O) {most : ℕ} → Settled stop told (told o) most
  at-once-settled o = record { outcome = o; needs = 0; bounded = omega arith; exact = at_once stop (told o) }

  -- more visits settle it too
  pub loosely-settled : {go : Tally → R} {a b : ℕ} → Settled stop told go a → a ≤ b → Settled stop told go b
  loosely-settled w h = record { outcome = w.outcome; needs = w.needs; bounded = omega arith; exact = w.exact }

  module _ {R' : Type 0} {stop' : R'} {go end : Tally → R'} {k : ℕ} (on : R' → R) (stops : on stop' ≡ stop)
      (a : Needs stop' go end k) where
    -- what reads the end of another as an outcome is settled with it
    pub read-settled : (o : O) {most : ℕ} → ((y : Tally) → on (end y) ≡ told o y) → k ≤ most
        → Settled stop told (λ y. on (go y)) most
    read-settled o reads h = record { outcome = o; needs = k; bounded = h; exact = read-needs on stops reads a }

    -- what goes on from the end of another is settled by the visits of both
    pub then-settled : {go' : Tally → R} {most more : ℕ} → ((y : Tally) → on (end y) ≡ go' y) → k ≤ most
        → Settled stop told go' more → Settled stop told (λ y. on (go y)) (most + more)
    then-settled goes h w = record {
      outcome = w.outcome;
      needs = k + w.needs;
      bounded = omega arith;
      exact = then-needs on stops goes a w.exact;
    }
