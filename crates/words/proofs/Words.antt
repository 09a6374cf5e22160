-- Words, byte for byte, and their records. The laws have for premises what is known where `search` cites them.
use Rattle.std.proofs.Common.{◌≡◌, ◌≢◌, Bool, true, false, cond, ◌&&◌, ◌∙◌, List, [], ◌∷◌, ℕ, suc, length, get_or, eqb}
use Rattle.std.proofs.Common.{arith, refl, ap, ℤ, nat_abs, Some, w64, to_z, of_z, SFits}
use Rattle.std.proofs.lemmas.Bool.Decides.{nat_tests}
use Rattle.std.proofs.lemmas.Int.{to_z-of_z}
use Rattle.std.proofs.lemmas.Slice.Eq.{HasBytesAt, text_from_reads, bytes_eq-Decides}
use Rattle.words.specs.declared.Record.{Record}
use Rattle.words.specs.declared.Record.TheVariants.{Pt, Near, In, NotUnderstood}
use Rattle.words.specs.Fields.{same_bytes, field}
use Rattle.words.specs.Records.{LINE, PT, NEAR, IN, MEET, AGREE, is, line_named, coordinate, allowance}
use Rattle.words.specs.Records.{numbered, record_in}

-- the bytes of w stand in f from byte i on
abbrev pub stands : List ℕ → ℕ → List ℕ → Bool
stands f i [] = true
stands f i (c ∷ w) = eqb (get_or f i 0) c && stands f (suc i) w

stands_after : (b : ℕ) (f : List ℕ) (i : ℕ) (w : List ℕ) → stands (b ∷ f) (suc i) w ≡ stands f i w
stands_after b f i [] = refl
stands_after b f i (c ∷ w) = ap (λ t. eqb (get_or f i 0) c && t) (stands_after b f (suc i) w)

-- words of one length are the same where each byte is
pub same-bytes : (f w : List ℕ) → same_bytes f w ≡ (eqb (length f) (length w) && stands f 0 w)
unfolding same_bytes
same-bytes [] [] = refl
same-bytes [] (c ∷ w) = grind (arith, nat_tests)
same-bytes (b ∷ f) [] = grind (arith, nat_tests)
same-bytes (b ∷ f) (c ∷ w) = let h = same-bytes f w in let k = stands_after b f 0 w in grind (arith, nat_tests)

-- ---- one word, and another

module _ (count : ℕ) (f w : List ℕ) (n : ℕ) where
  pub is-word : is count f w n ≡ (eqb count n && (eqb (length f) (length w) && stands f 0 w))
  unfolding is
  is-word = ap (λ t. eqb count n && t) (same-bytes f w)

  pub other-count : count ≢ n → false ≡ is count f w n
  unfolding is
  other-count h = grind (arith, nat_tests)

  other_word : f ≢ w → false ≡ is count f w n
  unfolding is same_bytes
  other_word h = let d = bytes_eq-Decides f w in grind (arith, nat_tests)

  pub other-length : length f ≢ length w → false ≡ is count f w n
  other-length h = other_word (λ e. h (ap length e))

  -- `search` does not guess i: each has a law of its own
  other_byte : (i : ℕ) → get_or f i 0 ≢ get_or w i 0 → false ≡ is count f w n
  other_byte i h = other_word (λ p. h (ap (λ l. get_or l i 0) p))

  pub other-byte-0 : get_or f 0 0 ≢ get_or w 0 0 → false ≡ is count f w n
  other-byte-0 = other_byte 0

  pub other-byte-1 : get_or f 1 0 ≢ get_or w 1 0 → false ≡ is count f w n
  other-byte-1 = other_byte 1

  pub other-byte-2 : get_or f 2 0 ≢ get_or w 2 0 → false ≡ is count f w n
  other-byte-2 = other_byte 2

  pub other-byte-3 : get_or f 3 0 ≢ get_or w 3 0 → false ≡ is count f w n
  other-byte-3 = other_byte 3

  pub other-byte-4 : get_or f 4 0 ≢ get_or w 4 0 → false ≡ is count f w n
  other-byte-4 = other_byte 4

  pub this_word : count ≡ n → length f ≡ length w → HasBytesAt f 0 w → true ≡ is count f w n
  unfolding is same_bytes
  this_word c l b = let e = text_from_reads f w l b in let d = bytes_eq-Decides f w in grind (arith, nat_tests)

-- ---- a word's record

-- as the machine's integer
abbrev back : ℤ → ℤ
back z = to_z w64 (of_z w64 z)

module _ (count : ℕ) (word : List ℕ) (fs : List (List ℕ)) where
  pub no_record : false ≡ is count word LINE 2 → false ≡ is count word PT 3 → false ≡ is count word NEAR 5
      → false ≡ is count word IN 4 → false ≡ is count word MEET 2 → false ≡ is count word AGREE 3
      → NotUnderstood ≡ record_in count word fs
  no_record l p n i m a = grind (arith, nat_tests)

  -- the records of more than one coordinate, with which `grind` alone comes to its limit
  module _ (x y : ℤ) (f : SFits w64 x) (g : SFits w64 y)
      (p : Some x ≡ coordinate fs 1) (q : Some y ≡ coordinate fs 2) where
    pub pt-record : true ≡ is count word PT 3 → Pt (back x) (back y) ≡ record_in count word fs
    unfolding is
    pt-record i = rw (to_z-of_z w64 x f, to_z-of_z w64 y g) (grind (arith, nat_tests))

    pub in-record : (a : ℤ) → true ≡ is count word IN 4 → Some a ≡ allowance fs 3 →
        In (back x) (back y) (nat_abs a) ≡ record_in count word fs
    unfolding is
    in-record a i r = rw (to_z-of_z w64 x f, to_z-of_z w64 y g) (grind (arith, nat_tests))

    pub near-record : (d a : ℤ) → SFits w64 d → true ≡ is count word NEAR 5 → Some d ≡ coordinate fs 3 →
        Some a ≡ allowance fs 4 → Near (back x) (back y) (back d) (nat_abs a) ≡ record_in count word fs
    unfolding is
    near-record d a h i r s = rw (to_z-of_z w64 x f, to_z-of_z w64 y g, to_z-of_z w64 d h) (grind (arith, nat_tests))

  -- what is made of a record's count, its word and its numbers, where it is no LINE of two fields, is the record
  pub made-numbered : {made : Record} → made ≡ record_in count word fs → is count word LINE 2 ≡ false
      → made ≡ numbered count word fs
  made-numbered e no-line =
      e ∙ ap (λ (is_line : Bool). cond is_line (line_named (field fs 1)) (numbered count word fs)) no-line

pub ruleset words = (same-bytes, is-word)

pub ruleset records = (
  no_record,
  other-count,
  other-length,
  other-byte-0,
  other-byte-1,
  other-byte-2,
  other-byte-3,
  other-byte-4,
  this_word,
  pt-record,
  in-record,
  near-record,
  words,
  to_z-of_z,
)
