-- What the program holds past bytes: at first, past more bytes, and never again what it held at first.
use mathlib.Core.Path.{◌≡◌, refl, sym, ◌∙◌, ap, subst⁻¹}
use mathlib.Core.List.{List, [], ◌++◌}
use Prim.Native.Nat.{ℕ}
use native.Mathlib.Omega.{arith}
use lib.ListN.{length-append}
use Rattle.desk.specs.Chunks.{Carry, begun, carry_chunk}
use Rattle.desk.proofs.Chunks.{carry-append}
use Rattle.desk.proofs.Begun.{begun-again}
use Rattle.ready.specs.declared.TablesBuilt.{TablesBuilt}
use Rattle.store.specs.declared.State.{State}
use Rattle.records.specs.Left.{Slices, chunk_left}
use Rattle.records.specs.Built.{built_in, none_built, chunk_built}
use Rattle.records.specs.Carried.{Bounds}
use Rattle.records.proofs.Stay.{none-built, Stay}
use Rattle.byte.specs.Feeds.{carry_of, Fed, Feeds}
use Rattle.byte.proofs.Stay.{chunk-stay}
use Rattle.chunks.proofs.Chunk.{left-append, built-append}
use Rattle.chunks.specs.Opened.{zeros}
use Rattle.reading.specs.After.{After, AfterBytes}

-- A state that is opened, with slices of zeros, is what is held past no bytes.
pub after_none : {s : State} {l : Slices} → l ≡ zeros → carry_of s l ≡ begun → Bounds s → built_in s ≡ none_built →
    AfterBytes 0 s l
unfolding carry_chunk chunk_left chunk_built
after_none {s} {l} whole e bounds built =
    let none = ap (λ (c : Carry). c.desk.text_lines) e in
    let after : After [] s l =
    record { carried = e; left = whole; built = built; bounds = bounds; read = omega arith } in
    record { input = []; count = refl; after = after }

-- What more bytes come to is what is held past them too.
pub after_more : {input bytes before out : List ℕ} {at : ℕ} {s : State} {l l' : Slices} {r : Fed} →
    After input s l → Feeds s l bytes before at r l' out → After (input ++ bytes) r.state l'
after_more {input} {bytes} p f =
    record {
      carried = f.carried ∙ ap (λ (c : Carry). carry_chunk c bytes) p.carried ∙ sym (carry-append begun input bytes);
      left = f.left ∙ (λ i. chunk_left (p.carried i) (p.left i) bytes) ∙ sym (left-append begun zeros input bytes);
      built = f.built ∙ (λ i. chunk_built (p.carried i) (p.left i) (p.built i) bytes)
          ∙ sym (built-append begun zeros none_built input bytes);
      bounds = f.bounds;
      read = let most = f.read in let few = p.read in let both = length-append input bytes in omega arith;
    }

-- A line whose table is built stays ready: none is at first, and so past any input.
pub after-stay : {n : ℕ} {s : State} {l : Slices} → AfterBytes n s l
    → Stay (built_in s) (carry_of s l).desk l.numbers.tables
after-stay p =
    let h = p.after in
    let none : Stay none_built begun.desk zeros.numbers.tables = record { a = none-built; b = none-built } in
    subst⁻¹ (λ (x : TablesBuilt × Carry × Slices). Stay x.0 x.1.desk x.2.numbers.tables)
    (λ i. (h.built i, h.carried i, h.left i)) (chunk-stay none_built begun zeros p.input none)

-- A state that is opened is held past no bytes alone: opened anew after a chunk, it is never what `pass` asks for.
pub opened-first : {n : ℕ} {s : State} {l : Slices} → AfterBytes n s l → carry_of s l ≡ begun → n ≡ 0
opened-first p e = sym p.count ∙ begun-again p.input (sym p.after.carried ∙ e)
