-- What plain geometry says of two lines: YES exactly where they agree, and else the first point that is not NEAR the
-- other line.
use mathlib.Core.Path.{◌≡◌, refl, ap}
use mathlib.Core.Bool.{Bool, true, false, not}
use mathlib.Core.List.{List}
use mathlib.Core.Logic.{◌↔◌}
use Prim.Native.Nat.{ℕ}
use native.Mathlib.Omega.{arith}
use borrow.Author.Tests.{lt-ltb, not-false}
use lib.Dec.{ltb}
use lib.IntN.{ℤ}
use Rattle.rules.specs.declared.Line.{Line}
use Rattle.rules.specs.declared.Line.TheVariants.{NoLine, LineA, LineB}
use Rattle.rules.specs.Sheet.{points_of}
use Rattle.rules.specs.Plain.{plain_agree}
use Rattle.rules.specs.declared.Word.TheVariants.{YES}
use Rattle.rules.specs.Reply.{says, disagrees}
use Rattle.rules.specs.Build.{lowest}
use Rattle.visits.proofs.Tests.{never}
use Rattle.near_truth.specs.First.{First, near_other, AllNear, FirstApart}
use Rattle.near_truth.proofs.Agree.{every-agree, agree-every}
use Rattle.table_truth.proofs.Refusals.{lowest-is, lowest-unique, none_has, has-none}
use Rattle.demands.specs.Answers.{first_apart, agree_plain}

-- the first that is not near is the lowest
first-lowest : {near : ℕ → Bool} {n i : ℕ} → First near n i → lowest (λ j. not (near j)) 0 n ≡ i
first-lowest {near} {n} {i} f =
    let apart : ℕ → Bool = λ j. not (near j) in
    lowest-unique apart 0 n (lowest apart 0 n) i (lowest-is apart 0 n) (record {
      from = omega arith;
      upto = omega (arith, f.below);
      before = λ j _ b. ap not (f.earlier j b);
      found = λ _. ap not f.apart;
    })

-- whether point i of the one line is not NEAR the other
abbrev not_near : List ℤ → List ℤ → ℤ → ℕ → Bool
not_near ps qs D i = not (near_other ps qs D i)

-- where each point is near, there is no lowest that is not
none_apart : (ps qs : List ℤ) (D : ℤ) → AllNear ps qs D → ltb (first_apart ps qs D) (points_of ps) ≡ false
none_apart ps qs D near = has-none (not_near ps qs D) (points_of ps) (λ i h. ap not (near i h))

-- and back
all_near_lem : (ps qs : List ℤ) (D : ℤ) → ltb (first_apart ps qs D) (points_of ps) ≡ false → AllNear ps qs D
all_near_lem ps qs D e i h = not-false (near_other ps qs D i) (none_has (not_near ps qs D) (points_of ps) e i h)

module _ (ps qs : List ℤ) (D : ℤ) (v : ℕ) where
  -- where the lines agree, it is YES
  pub agrees-plain : plain_agree ps qs D ≡ true → agree_plain ps qs D v ≡ says YES v
  unfolding agree_plain
  agrees-plain e = let near = agree-every ps qs D e in rw (none_apart ps qs D near.0, none_apart qs ps D near.1)

  -- where a point is apart, it names the first
  pub disagrees-plain : (l : Line) (i : ℕ) → FirstApart ps qs D l i → agree_plain ps qs D v ≡ disagrees l i v
  unfolding agree_plain
  disagrees-plain NoLine i f = absurd f
  disagrees-plain LineA i f = rw (first-lowest f, lt-ltb i (points_of ps) f.below)
  disagrees-plain LineB j f =
      rw (none_apart ps qs D f.0, first-lowest f.1, lt-ltb j (points_of qs) f.1.below)

  -- plain geometry says YES exactly where each point of either line is NEAR the other line
  pub agree-plain : ((agree_plain ps qs D v).word ≡ YES) ↔ (plain_agree ps qs D ≡ true)
  unfolding agree_plain
  agree-plain = (there _ _ refl refl, λ e. ap (λ r. r.word) (agrees-plain e))
    where
      there : (a b : Bool) → ltb (first_apart ps qs D) (points_of ps) ≡ a → ltb (first_apart qs ps D) (points_of qs) ≡ b
          → (agree_plain ps qs D v).word ≡ YES → plain_agree ps qs D ≡ true
      there true b p q e = never (cc (rw p at e))
      there false true p q e = never (cc (rw (p, q) at e))
      there false false p q e = every-agree ps qs D (all_near_lem ps qs D p) (all_near_lem qs ps D q)
