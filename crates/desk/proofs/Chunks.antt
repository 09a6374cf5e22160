-- The output does not depend on how the input is cut into chunks: however it is cut, the program prints what the
-- definition says of the whole. The bytes kept of the unfinished text line stand for all of its bytes.
use mathlib.Core.Path.{◌≡◌, refl, sym, ◌∙◌, ap}
use mathlib.Core.Bool.{Bool, true, false, cond}
use mathlib.Core.List.{List, [], ◌∷◌, ◌++◌, append_assoc, append-nil}
use mathlib.Core.Logic.{◌⊎◌, inl, inr}
use Prim.Native.Nat.{ℕ, ◌+◌, ◌<◌}
use native.Mathlib.Omega.{arith}
use borrow.Author.Tests.{lt-leb, leb-false}
use lib.Dec.{eqb, leb}
use lib.ListN.{length, length-append}
use Rattle.words.specs.declared.Record.TheVariants.{NotUnderstood}
use Rattle.words.specs.Fields.{line_feed, onto_first}
use Rattle.words.specs.Records.{longest, record_of}
use Rattle.desk.specs.Desk.{Desk, opened, count_text, take_record, take_text, bytes_of}
use Rattle.desk.specs.Program.{text_lines, replies, program}
use Rattle.desk.specs.Chunks.{Carry, begun, keep, carry_byte, print_byte, carry_chunk, print_chunk}
use Rattle.desk.specs.Chunks.{last_line, print_last, print_chunks, join_all}

-- ---------------- what is kept of a text line stands for it

-- the same text line, or both too long
abbrev Stands : List ℕ → List ℕ → Type 0
Stands kept text = (kept ≡ text) ⊎ ((longest < length kept) × (longest < length text))

long-record : (text : List ℕ) → longest < length text → record_of text ≡ NotUnderstood
unfolding record_of
long-record text h = simp (lt-leb (length text) longest h)

stands-taken : (d : Desk) (kept text : List ℕ) → Stands kept text → take_text d kept ≡ take_text d text
unfolding take_text
stands-taken d kept text (inl e) = ap (λ (t : List ℕ). take_record (count_text d) (record_of t)) e
stands-taken d kept text (inr h) = rw (long-record kept h.0, long-record text h.1)

longer : (text : List ℕ) (b : ℕ) → length (text ++ b ∷ []) ≡ length text + 1
longer text b = length-append text (b ∷ [])

stands-keep : (kept text : List ℕ) (b : ℕ) → Stands kept text → Stands (keep kept b) (text ++ b ∷ [])
stands-keep kept text b (inr h) =
    inr (rw (lt-leb (length kept) longest h.0) h.0, omega (arith, longer text b, h.1))
stands-keep kept text b (inl e) = go (leb (length kept) longest) refl
  where
    go : (k : Bool) → leb (length kept) longest ≡ k → Stands (cond k (kept ++ b ∷ []) kept) (text ++ b ∷ [])
    go true q = inl (ap (λ (t : List ℕ). t ++ b ∷ []) e)
    go false q =
        let h : longest < length kept = leb-false (length kept) longest q in
        inr (h, omega (arith, longer text b, ap length e))

-- ---------------- the text lines, with the bytes before them that have not ended

abbrev ended : List ℕ → List (List ℕ)
ended [] = []
ended (b ∷ bs) = (b ∷ bs) ∷ []

abbrev attach : List ℕ → List (List ℕ) → List (List ℕ)
attach text [] = ended text
attach text (l ∷ ls) = (text ++ l) ∷ ls

ended-more : (text : List ℕ) (b : ℕ) → ended (text ++ b ∷ []) ≡ (text ++ b ∷ []) ∷ []
ended-more [] b = refl
ended-more (x ∷ xs) b = refl

attach-none : (ls : List (List ℕ)) → attach [] ls ≡ ls
attach-none [] = refl
attach-none (l ∷ ls) = refl

attach-onto : (text : List ℕ) (b : ℕ) (ls : List (List ℕ)) → attach text (onto_first b ls) ≡ attach (text ++ b ∷ []) ls
attach-onto text b [] = sym (ended-more text b)
attach-onto text b (l ∷ ls) = ap (λ (t : List ℕ). t ∷ ls) (sym (append_assoc text (b ∷ []) l))

-- ---------------- byte after byte

last_line_lem : (c : Carry) (text : List ℕ) → Stands c.pending text → print_last c ≡ replies c.desk (ended text)
unfolding replies
last_line_lem c text h = go c.pending text h
  where
    one : (x : ℕ) (xs kept : List ℕ) → Stands kept (x ∷ xs) →
        bytes_of (take_text c.desk kept) ≡ replies c.desk ((x ∷ xs) ∷ [])
    one x xs kept h = rw (stands-taken c.desk kept (x ∷ xs) h, append-nil)

    differ : {X : Type 0} → ◌≡◌ {A = ℕ} 0 1 → X
    differ e = absurd (omega arith)

    go : (kept text : List ℕ) → Stands kept text → last_line c.desk kept ≡ replies c.desk (ended text)
    go [] [] h = refl
    go [] (x ∷ xs) (inl e) = differ (cc)
    go [] (x ∷ xs) (inr h) = absurd (let l = h.0 in omega arith)
    go (k ∷ ks) [] (inl e) = differ (cc)
    go (k ∷ ks) [] (inr h) = absurd (let l = h.1 in omega arith)
    go (k ∷ ks) (x ∷ xs) h = one x xs (k ∷ ks) h

-- What a byte comes to: at a line feed the pending bytes are a text line, and else the byte is kept.
module _ (c : Carry) (b : ℕ) where
  abbrev pub carried : Bool → Carry
  carried k =
      cond k (record { desk = (take_text c.desk c.pending).desk; pending = [] })
      (record { desk = c.desk; pending = keep c.pending b })

  abbrev pub printing : Bool → List ℕ
  printing k = cond k (bytes_of (take_text c.desk c.pending)) []

  pub carry-byte : {k : Bool} → eqb b line_feed ≡ k → carry_byte c b ≡ carried k
  unfolding carry_byte
  carry-byte e = ap carried e

  pub print-byte : {k : Bool} → eqb b line_feed ≡ k → print_byte c b ≡ printing k
  unfolding print_byte
  print-byte e = ap printing e

-- What a chunk and the end of input print is what the definition says of the text lines.
abbrev Whole : List ℕ → Type 0
Whole bs =
    (c : Carry) (text : List ℕ) → Stands c.pending text →
    print_chunk c bs ++ print_last (carry_chunk c bs) ≡ replies c.desk (attach text (text_lines bs))

chunk-then-end : (bs : List ℕ) → Whole bs
unfolding print_byte carry_byte print_chunk carry_chunk text_lines replies
chunk-then-end [] c text h = last_line_lem c text h
chunk-then-end (b ∷ bs) c text h = go (eqb b line_feed) (chunk-then-end bs)
  where
    now : take_text c.desk c.pending ≡ take_text c.desk (text ++ [])
    now = stands-taken c.desk c.pending text h ∙ ap (take_text c.desk) (sym (append-nil text))

    go : (k : Bool) → Whole bs → let past = carried c b k in
        (printing c b k ++ print_chunk past bs) ++ print_last (carry_chunk past bs)
        ≡ replies c.desk (attach text (cond k ([] ∷ text_lines bs) (onto_first b (text_lines bs))))
    go true ih =
        rw (append_assoc, ih (carried c b true) [] (inl refl), attach-none (text_lines bs))
        (λ i. bytes_of (now i) ++ replies (now i).desk (text_lines bs))
    go false ih =
        rw (attach-onto text b (text_lines bs))
        (ih (carried c b false) (text ++ b ∷ []) (stands-keep c.pending text b h))

-- ---------------- chunk after chunk

pub carry-append : (c : Carry) (xs ys : List ℕ) → carry_chunk c (xs ++ ys) ≡ carry_chunk (carry_chunk c xs) ys
unfolding carry_chunk
carry-append c [] ys = refl
carry-append c (x ∷ xs) ys = carry-append (carry_byte c x) xs ys

pub print-append : (c : Carry) (xs ys : List ℕ) →
    print_chunk c (xs ++ ys) ≡ print_chunk c xs ++ print_chunk (carry_chunk c xs) ys
unfolding print_chunk carry_chunk
print-append c [] ys = refl
print-append c (x ∷ xs) ys = rw (append_assoc, print-append (carry_byte c x) xs ys)

chunks-joined : (c : Carry) (chunks : List (List ℕ)) → let all = join_all chunks in
    print_chunks c chunks ≡ print_chunk c all ++ print_last (carry_chunk c all)
unfolding print_chunks join_all print_chunk carry_chunk
chunks-joined c [] = refl
chunks-joined c (chunk ∷ chunks) =
    let all = join_all chunks in
    rw (print-append c chunk all, carry-append c chunk all, append_assoc, chunks-joined (carry_chunk c chunk) chunks)

-- however the input is cut into chunks, what is printed is what the definition says of all of it
pub cut-anyhow : (chunks : List (List ℕ)) → print_chunks begun chunks ≡ program (join_all chunks)
unfolding program
cut-anyhow chunks =
    chunks-joined begun chunks
    ∙ chunk-then-end (join_all chunks) begun [] (inl refl)
    ∙ ap (replies opened) (attach-none (text_lines (join_all chunks)))
