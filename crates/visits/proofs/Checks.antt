-- The checks before a walk: which of two lists refuses, and what it tells that none does: not one of them holds, and so
-- a line has a segment.
use mathlib.Core.Path.{◌≡◌, refl, ◌∙◌, ap, subst}
use mathlib.Core.Bool.{Bool, false, cond}
use mathlib.Core.List.{List, [], ◌∷◌, ◌++◌}
use mathlib.Core.Option.{Option, none, some, IsSome}
use Prim.Native.Nat.{◌*◌, ◌%◌, ◌≤◌}
use native.Mathlib.Omega.{arith}
use borrow.Author.Tests.{ltb-false, le-ltb, eqb-false, ne_eqb}
use lib.IntN.{ℤ}
use lib.ListN.{length}
use Rattle.integers.specs.Laws.{test-ind}
use Rattle.rules.specs.declared.Line.{Line}
use Rattle.rules.specs.declared.Line.TheVariants.{LineA, LineB}
use Rattle.rules.specs.declared.Refusal.{Refusal}
use Rattle.rules.specs.Sheet.{points_of, segments_of, fewest, most}
use Rattle.rules.specs.Tree.{width, row_count}
use Rattle.rules.specs.Reply.{Check, early, first_refusal, or_else}
use Rattle.rules.specs.Rows.{length_checks}
use Rattle.visits.specs.Fine.{LengthsFine}
pub use Rattle.visits.specs.Clear.{Clear}

-- pairs of pairs, as Clear asks for them
infixr 4 ◌then◌
pub ◌then◌ : {A B : Type 0} → A → B → A × B
a then b = (a, b)

-- nothing is refused exactly where no check holds
pub none-clear : (ks : List Check) → first_refusal ks ≡ none → Clear ks
none-clear [] e = tt
none-clear (k ∷ ks) e =
    test-ind (λ b. cond b (some (early k)) (first_refusal ks) ≡ none → (b ≡ false) × Clear ks) k.holds
    (λ _ r. absurd (subst IsSome r tt)) (λ _ r. (refl, none-clear ks r)) e

pub clear_none : (ks : List Check) → Clear ks → first_refusal ks ≡ none
clear_none [] c = refl
clear_none (k ∷ ks) c = ap (λ (b : Bool). cond b (some (early k)) (first_refusal ks)) c.0 ∙ clear_none ks c.1

-- checks that follow others
pub clear-parts : (ks ls : List Check) → Clear (ks ++ ls) → Clear ks × Clear ls
clear-parts [] ls c = (tt, c)
clear-parts (k ∷ ks) ls c = let h = clear-parts ks ls c.1 in ((c.0, h.0), h.1)

pub clear_whole : (ks ls : List Check) → Clear ks → Clear ls → Clear (ks ++ ls)
clear_whole [] ls c d = d
clear_whole (k ∷ ks) ls c d = (c.0, clear_whole ks ls c.1 d)

-- two lists of checks in a row refuse what the first does, and else what the second does
pub first-append : (ks ls : List Check) → first_refusal (ks ++ ls) ≡ or_else (first_refusal ks) (first_refusal ls)
first-append [] ls = refl
first-append (k ∷ ks) ls =
    let told : Bool → Option Refusal → Option Refusal = λ b o. cond b (some (early k)) o in
    test-ind (λ b. told b (first_refusal (ks ++ ls)) ≡ or_else (told b (first_refusal ks)) (first_refusal ls)) k.holds
    (λ _. refl) (λ _. first-append ks ls)

-- ---------------- a line's lengths

module _ (l : Line) (ps t : List ℤ) where
  -- none of their checks holds exactly where they are fine
  pub lengths_read : Clear (length_checks l ps t) → LengthsFine ps t
  lengths_read c = record {
    even = omega (arith, eqb-false (length ps % 2) 1 c.0);
    some-points = ltb-false (points_of ps) fewest c.1.0;
    not_more = ltb-false most (points_of ps) c.1.1.0;
    table-long = ltb-false (length t) (width * row_count (segments_of ps)) c.1.1.1.0;
  }

  pub lengths-clear : LengthsFine ps t → Clear (length_checks l ps t)
  lengths-clear f =
      ne_eqb (length ps % 2) 1 (omega (arith, f.even))
      then le-ltb (points_of ps) fewest f.some-points
      then le-ltb most (points_of ps) f.not_more
      then le-ltb (length t) (width * row_count (segments_of ps)) f.table-long
      then tt

-- where the checks of a line's lengths, and then others, do not refuse ..
module _ (l : Line) (ps t : List ℤ) (rest : List Check) (e : first_refusal (length_checks l ps t ++ rest) ≡ none) where
  clear : Clear (length_checks l ps t) × Clear rest
  clear = clear-parts (length_checks l ps t) rest (none-clear (length_checks l ps t ++ rest) e)

  -- .. the line has a segment
  pub some-segment : 1 ≤ segments_of ps
  some-segment = omega (arith, (lengths_read l ps t clear.0).some-points)

  -- .. and the others do not refuse either
  rest-none : first_refusal rest ≡ none
  rest-none = clear_none rest clear.1

-- where the checks of the lengths of two lines, and then others, do not refuse, both have a segment
pub both-segments : (ps t qs t' : List ℤ) (rest : List Check)
    → first_refusal (length_checks LineA ps t ++ (length_checks LineB qs t' ++ rest)) ≡ none
    → (1 ≤ segments_of ps) × (1 ≤ segments_of qs)
both-segments ps t qs t' rest e =
    let of-B = length_checks LineB qs t' ++ rest in
    (some-segment LineA ps t of-B e, some-segment LineB qs t' rest (rest-none LineA ps t of-B e))
