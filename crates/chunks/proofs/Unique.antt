-- A promise allows one outcome alone: it says what every lent slice holds, the carry determines the state, and what is
-- printed determines the slice.
use mathlib.Core.Path.{◌≡◌, refl, sym, ◌∙◌, ap, subst}
use mathlib.Core.Bool.{Bool, true, false}
use mathlib.Core.List.{List, [], ◌∷◌}
use Prim.Native.Nat.{ℕ, zero, suc, ◌*◌}
use native.Mathlib.Omega.{arith}
use lib.Dec.{eqb}
use lib.IntN.{ℤ, pos}
use lib.ListN.{length, take, replicate, length-replicate}
use Rattle.rules.specs.declared.Line.{Line}
use Rattle.rules.specs.declared.Line.TheVariants.{NoLine, LineA, LineB}
use Rattle.rules.specs.Sheet.{points_of}
use Rattle.words.specs.declared.Record.{Record}
use Rattle.words.specs.declared.Record.TheVariants.{Start, Pt, Near, In, Meet, Agree, NotUnderstood}
use Rattle.words.specs.Fields.{line_feed}
use Rattle.words.specs.Records.{record_of}
use Rattle.print.proofs.Unique.{put-unique}
use Rattle.desk.specs.Desk.{Desk, room, count_text}
use Rattle.desk.specs.Chunks.{Carry, begun, carry_byte}
use Rattle.desk.specs.Kept.{kept_bytes, Stored}
use Rattle.store.specs.declared.State.{State}
use Rattle.store.specs.declared.Outcome.{Outcome}
use Rattle.store.proofs.Stores.{point-size, held-unique}
use Rattle.store.proofs.Texts.{pending-bytes, kept-size}
use Rattle.records.specs.Left.{Both, Numbers, Slices, slices, stores_left, record_left, text_left, byte_left, chunk_left}
use Rattle.records.specs.Built.{built_in, none_built}
use Rattle.records.specs.Carried.{Bounds}
use Rattle.records.specs.Takes.{TakesText}
use Rattle.byte.specs.Feeds.{carry_of, Fed, Feeds}
use Rattle.chunks.specs.Finishes.{Finishes, Leaves}
use Rattle.byte.proofs.Byte.{leaving}

-- The sizes of the stores and of the text line that has not ended.
pub record Sized (l : Slices) : Type 0 where
  pub store-a : length l.numbers.stores.a ≡ 2 * room
  pub store-b : length l.numbers.stores.b ≡ 2 * room
  pub text : length l.text ≡ kept_bytes

-- ---------------- what is left has the sizes of what was lent
-- the same sizes of two stores
abbrev Alike : Both → Both → Type 0
Alike s t = (length s.a ≡ length t.a) × (length s.b ≡ length t.b)

stores-size : (d : Desk) (l : Line) (s : Both) (x y : ℤ) → Alike (stores_left d l s x y) s
stores-size d NoLine s x y = (refl, refl)
stores-size d LineA s x y = (point-size (points_of d.a.points) s.a x y, refl)
stores-size d LineB s x y = (refl, point-size (points_of d.b.points) s.b x y)

record-size : (d : Desk) (n : Numbers) (q : Record) → Alike (record_left d n q).stores n.stores
record-size d n (Start l) = (refl, refl)
record-size d n (Pt x y) = stores-size d d.target n.stores x y
record-size d n (Near x y D allowance) = (refl, refl)
record-size d n (In x y allowance) = (refl, refl)
record-size d n (Meet allowance) = (refl, refl)
record-size d n (Agree D allowance) = (refl, refl)
record-size d n NotUnderstood = (refl, refl)

text-sized : (d : Desk) (l : Slices) (text : List ℕ) → Sized l →
    Sized (record { numbers = text_left d l.numbers text; text = l.text })
unfolding text_left
text-sized d l text s =
    let alike = record-size (count_text d) l.numbers (record_of text) in
    record { store-a = alike.0 ∙ s.store-a; store-b = alike.1 ∙ s.store-b; text = s.text }

byte-sized : (c : Carry) (l : Slices) (b : ℕ) → Sized l → Sized (byte_left c l b)
unfolding byte_left
byte-sized c l b s = go (eqb b line_feed)
  where
    go : (k : Bool) → Sized (leaving c b l k)
    go true = text-sized c.desk l c.pending s
    go false =
        let kept = kept-size (length c.pending) l.text b in
        record { store-a = s.store-a; store-b = s.store-b; text = kept ∙ s.text }

chunk-sized : (c : Carry) (l : Slices) (chunk : List ℕ) → Sized l → Sized (chunk_left c l chunk)
unfolding chunk_left
chunk-sized c l [] s = s
chunk-sized c l (b ∷ bs) s = chunk-sized (carry_byte c b) (byte_left c l b) bs (byte-sized c l b s)

-- ---------------- one state
module _ {s : State} {l : Slices} (size : Sized l) (k : Bounds s) where
  stored-a : Stored s.a l.numbers.stores.a
  stored-a = record { whole = size.store-a; counted = k.count-a }

  stored-b : Stored s.b l.numbers.stores.b
  stored-b = record { whole = size.store-b; counted = k.count-b }

-- The same carry, and the same tables built, are carried by the same state.
pub state-unique : {s s' : State} {l l' : Slices} →
    Sized l → Sized l' → Bounds s → Bounds s' → carry_of s l ≡ carry_of s' l' → built_in s ≡ built_in s' → s ≡ s'
state-unique {s} {s'} {l} {l'} size size' k k' e built =
    let held-a = held-unique (stored-a size k) (stored-a size' k') (λ i. (e i).desk.a) (λ i. (built i).a) in
    let held-b = held-unique (stored-b size k) (stored-b size' k') (λ i. (e i).desk.b) (λ i. (built i).b) in
    let many = pending-bytes l.text size.text k.kept in
    let many' = pending-bytes l'.text size'.text k'.kept in
    let kept : s.pending ≡ s'.pending = many ∙ ap (λ (c : Carry). length c.pending) e ∙ sym many' in
    λ i. let d = (e i).desk in
    record {
      target = d.target;
      a = held-a i;
      b = held-b i;
      read = d.text_lines;
      printed = d.printed_lines;
      pending = kept i;
    }

-- ---------------- one outcome
-- Two outcomes of a text line are equal: the state and what is said, and every lent number.
pub takes-unique : (s : State) {l : Slices} (text : List ℕ) {r r' : Outcome} {after after' : Numbers} → Sized l →
    TakesText s text l.numbers r after → TakesText s text l.numbers r' after' → (r ≡ r') × (after ≡ after')
takes-unique s {l} text {r} {r'} size (f, left, built) (g, left', built') =
    let Fits : Numbers → Type 0 = λ n. Sized (record { numbers = n; text = l.text }) in
    let sized = text-sized (carry_of s l).desk l text size in
    let fits = subst Fits (sym left) sized in
    let fits' = subst Fits (sym left') sized in
    let same = f.taken ∙ sym g.taken in
    let pending = f.pending ∙ sym g.pending in
    let state = state-unique fits fits' f.bounds g.bounds
    (λ i. record { desk = (same i).desk; pending = take (pending i) l.text }) (built ∙ sym built') in
    ((λ i. record { state = state i; said = (same i).said }), left ∙ sym left')

-- Two outcomes of a chunk are equal: the state and the count, every lent number and byte, and the slice written.
pub feeds-unique : {s : State} {l after after' : Slices} {chunk before out out' : List ℕ} {at : ℕ} {r r' : Fed} →
    Sized l → Feeds s l chunk before at r after out → Feeds s l chunk before at r' after' out' →
    (r ≡ r') × (after ≡ after') × (out ≡ out')
feeds-unique {s} {l} {chunk = chunk} size f g =
    let left = chunk-sized (carry_of s l) l chunk size in
    let size-f = subst Sized (sym f.left) left in
    let size-g = subst Sized (sym g.left) left in
    let state = state-unique size-f size-g f.bounds g.bounds (f.carried ∙ sym g.carried)
    (f.built ∙ sym g.built) in
    let put = put-unique f.printed g.printed in
    ((λ i. record { state = state i; wrote = put.1 i }), f.left ∙ sym g.left, put.0)

-- .. of the end of the input: the count, every lent number and byte, and the slice written.
pub finishes-unique : {s : State} {l after after' : Slices} {before out out' : List ℕ} {r r' : ℕ} →
    Finishes s l before r after out → Finishes s l before r' after' out' →
    (r ≡ r') × (after ≡ after') × (out ≡ out')
finishes-unique f g = let put = put-unique f.printed g.printed in (put.1, f.left ∙ sym g.left, put.0)

-- .. and the state too.
pub finished-unique : {s : State} {l after after' : Slices} {before out out' : List ℕ} {r r' : Fed} →
    Sized l → Finishes s l before r.wrote after out → Leaves s l before r after out →
    Finishes s l before r'.wrote after' out' → Leaves s l before r' after' out' → r ≡ r'
finished-unique {s} {r = r} {r'} size e f e' g = go s.pending refl
  where
    go : (n : ℕ) → s.pending ≡ n → r ≡ r'
    go zero none =
        let wrote = (finishes-unique e e').0 in
        let state = f.same none ∙ sym (g.same none) in λ i. record { state = state i; wrote = wrote i }
    go (suc n) some =
        let any : s.pending ≡ 0 → ⊥ = λ none. omega arith in (feeds-unique size (f.ended any) (g.ended any)).0

-- Two states that are opened are equal.
pub opened-unique : {r r' : State} →
    ((l : Slices) → carry_of r l ≡ begun) → ((l : Slices) → carry_of r' l ≡ begun) → Bounds r → Bounds r' →
    built_in r ≡ none_built → built_in r' ≡ none_built → r ≡ r'
opened-unique e f k k' none none' =
    let store = replicate (2 * room) (pos 0) in
    let l = slices store store [] [] (replicate {A = ℕ} kept_bytes 0) in
    let whole = length-replicate (2 * room) (pos 0) in
    let size : Sized l = record { store-a = whole; store-b = whole; text = length-replicate {A = ℕ} kept_bytes 0 } in
    state-unique size size k k' (e l ∙ sym (f l)) (none ∙ sym none')
