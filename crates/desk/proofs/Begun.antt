-- Every byte leaves its mark: past a line feed a text line is counted, and past any other byte a byte is pending. So
-- what is carried past a byte or more is never what was there at first.
use mathlib.Core.Path.{◌≡◌, refl, subst}
use mathlib.Core.Bool.{Bool, true, false, cond}
use mathlib.Core.List.{List, [], ◌∷◌, ◌++◌}
use Prim.Native.Nat.{ℕ, ◌+◌, ◌<◌}
use native.Mathlib.Omega.{arith}
use borrow.Author.Tests.{leb-false}
use lib.Dec.{eqb, leb, ltb}
use lib.IntN.{ℤ}
use lib.ListN.{length, length-append}
use Rattle.rules.specs.declared.Line.{Line}
use Rattle.rules.specs.declared.Line.TheVariants.{NoLine, LineA, LineB}
use Rattle.rules.specs.Sheet.{points_of}
use Rattle.words.specs.declared.Record.{Record}
use Rattle.words.specs.declared.Record.TheVariants.{Start, Pt, Near, In, Meet, Agree, NotUnderstood}
use Rattle.words.specs.Fields.{line_feed}
use Rattle.words.specs.Records.{longest, record_of}
use Rattle.desk.specs.Desk.{Desk, Store, room, empty, store_of, put_store, count_text}
use Rattle.desk.specs.Desk.{refused_at, quiet, saying, add_point, take_point, take_record, take_text}
use Rattle.desk.specs.Chunks.{Carry, begun, keep, carry_byte, carry_chunk}
use Rattle.desk.proofs.Chunks.{carried}

-- ---------------- what is taken counts its text line
put-counts : (d : Desk) (l : Line) (s : Store) → (put_store d l s).text_lines ≡ d.text_lines
put-counts d NoLine s = refl
put-counts d LineA s = refl
put-counts d LineB s = refl

add-counts : (d : Desk) (l : Line) (x y : ℤ) → (add_point d l x y).desk.text_lines ≡ d.text_lines
add-counts d l x y = go (ltb (points_of (store_of d l).points) room) _ _
  where
    go : (k : Bool) (s u : Store) → let refused = saying (put_store d l u) (refused_at 13 l d.text_lines) in
        (cond k (quiet (put_store d l s)) refused).desk.text_lines ≡ d.text_lines
    go true s u = put-counts d l s
    go false s u = put-counts d l u

take-counts : (d : Desk) (l : Line) (x y : ℤ) → (take_point d l x y).desk.text_lines ≡ d.text_lines
take-counts d NoLine x y = refl
take-counts d LineA x y = add-counts d LineA x y
take-counts d LineB x y = add-counts d LineB x y

record-counts : (d : Desk) (q : Record) → (take_record d q).desk.text_lines ≡ d.text_lines
record-counts d (Start l) = put-counts d l empty
record-counts d (Pt x y) = take-counts d d.target x y
record-counts d (Near x y D allowance) = refl
record-counts d (In x y allowance) = refl
record-counts d (Meet allowance) = refl
record-counts d (Agree D allowance) = refl
record-counts d NotUnderstood = refl

-- A text line that is taken is counted, and no other.
pub taken-counts : (d : Desk) (text : List ℕ) → (take_text d text).desk.text_lines ≡ d.text_lines + 1
unfolding take_text
taken-counts d text = record-counts (count_text d) (record_of text)

-- ---------------- what a byte leaves
-- Text lines counted, and bytes pending.
abbrev marks : Carry → ℕ
marks c = c.desk.text_lines + length c.pending

keep-marks : (text : List ℕ) (b : ℕ) → 0 < length (keep text b)
keep-marks text b = go (leb (length text) longest) refl
  where
    go : (k : Bool) → leb (length text) longest ≡ k → 0 < length (cond k (text ++ b ∷ []) text)
    go true e = omega (arith, length-append text (b ∷ []))
    go false e = omega (arith, leb-false (length text) longest e)

byte-marks : (c : Carry) (b : ℕ) → 0 < marks (carry_byte c b)
unfolding carry_byte
byte-marks c b = go (eqb b line_feed)
  where
    go : (k : Bool) → 0 < marks (carried c b k)
    go true = omega (arith, taken-counts c.desk c.pending)
    go false = omega (arith, keep-marks c.pending b)

chunk-marks : (c : Carry) (b : ℕ) (bs : List ℕ) → 0 < marks (carry_chunk c (b ∷ bs))
unfolding carry_chunk
chunk-marks c b [] = byte-marks c b
chunk-marks c b (b' ∷ bs) = chunk-marks (carry_byte c b) b' bs

-- What is carried is what was there at first only where nothing was read.
pub begun-again : (input : List ℕ) → carry_chunk begun input ≡ begun → length input ≡ 0
begun-again [] e = refl
begun-again (b ∷ bs) e =
    absurd (let some = subst (λ (c : Carry). 0 < marks c) e (chunk-marks begun b bs) in omega arith)
