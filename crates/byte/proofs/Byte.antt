-- What one byte comes to: a line feed ends the text line of the pending bytes, and any other byte is kept.
use mathlib.Core.Path.{◌≡◌, refl, sym, ◌∙◌, ap, subst}
use mathlib.Core.Bool.{Bool, true, false, cond}
use mathlib.Core.List.{List, [], ◌∷◌, append-nil}
use Prim.Native.Nat.{ℕ, ◌≤◌}
use native.Mathlib.Omega.{arith}
use borrow.Author.Tests.{eq-eqb, ne_eqb}
use lib.Dec.{eqb}
use lib.ListN.{length, take}
use Rattle.std.specs.Prelude.{Option, None, Some}
use Rattle.rules.specs.declared.Reply.{Reply}
use Rattle.words.specs.Fields.{line_feed}
use Rattle.print.specs.Printed.{widest}
use Rattle.print.specs.Put.{Put}
use Rattle.print.proofs.Width.{printed-fits}
use Rattle.print.proofs.Writing.{put_same, put-none}
use Rattle.desk.specs.Desk.{Desk, take_text, said_bytes, bytes_of}
use Rattle.desk.specs.Chunks.{Carry, print_byte, carry_chunk, print_chunk}
use Rattle.desk.specs.Kept.{kept_bytes}
use Rattle.desk.proofs.Chunks.{carried, printing, carry-byte, print-byte}
use Rattle.ready.specs.declared.TablesBuilt.{TablesBuilt}
use Rattle.store.specs.declared.State.{State}
use Rattle.store.specs.declared.Outcome.{Outcome}
use Rattle.store.specs.States.{kept_left, with_pending, Keeps}
use Rattle.store.proofs.Texts.{pending-bytes}
use Rattle.records.specs.Left.{Slices, text_left, byte_left, chunk_left}
use Rattle.records.specs.Built.{built_in, text_built, byte_built, chunk_built}
use Rattle.records.specs.Carried.{desk_of, Bounds}
use Rattle.records.specs.Takes.{TakesText}
use Rattle.byte.specs.Feeds.{carry_of, Feeds}

module _ (c : Carry) (b : ℕ) where
  pub carry-one : {k : Bool} → eqb b line_feed ≡ k → carry_chunk c (b ∷ []) ≡ carried c b k
  unfolding carry_chunk
  carry-one e = carry-byte c b e

  pub print-one : {k : Bool} → eqb b line_feed ≡ k → print_chunk c (b ∷ []) ≡ printing c b k
  unfolding print_chunk
  print-one e = append-nil (print_byte c b) ∙ print-byte c b e

  abbrev pub leaving : Slices → Bool → Slices
  leaving l k =
      cond k (record { numbers = text_left c.desk l.numbers c.pending; text = l.text })
      (record { numbers = l.numbers; text = kept_left (length c.pending) l.text b })

  pub left_one : (l : Slices) {k : Bool} → eqb b line_feed ≡ k → chunk_left c l (b ∷ []) ≡ leaving l k
  unfolding chunk_left byte_left
  left_one l e = ap (leaving l) e

  -- which tables are built then
  abbrev building : Slices → TablesBuilt → Bool → TablesBuilt
  building l k feed = cond feed (text_built c.desk l.numbers.tables k c.pending) k

  built-one : (l : Slices) (k : TablesBuilt) {feed : Bool} → eqb b line_feed ≡ feed
      → chunk_built c l k (b ∷ []) ≡ building l k feed
  unfolding chunk_built byte_built
  built-one l k e = ap (building l k) e

  -- A byte prints one line at most.
  said_fits : (r : Option Reply) (ordinal : ℕ) → length (said_bytes r ordinal) ≤ widest
  said_fits None ordinal = omega arith
  said_fits (Some r) ordinal = printed-fits ordinal r

  pub one-fits : length (print_chunk c (b ∷ [])) ≤ widest
  one-fits = rw (print-one refl) (go (eqb b line_feed))
    where
      go : (k : Bool) → length (printing c b k) ≤ widest
      go true = let t = take_text c.desk c.pending in said_fits t.said t.desk.printed_lines
      go false = omega arith

module _ {s : State} (l : Slices) (bounds : Bounds s) {byte : ℕ} (out : List ℕ) (at : ℕ) where
  -- A byte that is no line feed is kept, and prints nothing.
  pub byte-kept : {r : State} {text : List ℕ} →
      length l.text ≡ kept_bytes → (byte ≡ line_feed → ⊥) → Keeps s l.text byte r text →
      Feeds s l (byte ∷ []) out at (record { state = r; wrote = at }) (record { numbers = l.numbers; text = text }) out
  byte-kept {r} {text} whole other k =
      let c = carry_of s l in
      let e = ne_eqb byte line_feed other in
      let desk : State → Desk = λ u. desk_of u l.numbers.stores.a l.numbers.stores.b in
      let many = pending-bytes l.text whole bounds.kept in
      let left = k.left ∙ ap (λ (n : ℕ). kept_left n l.text byte) many in
      let same = ap (λ (u : State). u.read) k.state in
      let within : Bounds (with_pending s r.pending) =
      record { count-a = bounds.count-a; count-b = bounds.count-b; kept = k.kept; ordinal = bounds.ordinal } in
      record {
        carried = (λ i. record { desk = desk (k.state i); pending = k.bytes i }) ∙ sym (carry-one c byte e);
        left = (λ i. record { numbers = l.numbers; text = left i }) ∙ sym (left_one c byte l e);
        built = ap built_in k.state ∙ sym (built-one c byte l (built_in s) e);
        printed = put_same (sym (print-one c byte e)) (put-none out at);
        bounds = subst Bounds (sym k.state) within;
        read = omega arith;
      }

  -- A line feed ends the text line of the pending bytes, and its outcome is printed.
  pub byte-ends : {t : Outcome} (after : Slices) {out' : List ℕ} {next : ℕ} →
      byte ≡ line_feed → TakesText s (carry_of s l).pending l.numbers t after.numbers → after.text ≡ l.text →
      Put out at (said_bytes t.said t.state.printed) out' next →
      Feeds s l (byte ∷ []) out at (record { state = t.state; wrote = next }) after out'
  byte-ends after feed (taken, left, built) same put =
      let c = carry_of s l in
      let e = eq-eqb byte line_feed feed in
      record {
        carried = (λ i. record { desk = (taken.taken i).desk; pending = take (taken.pending i) (same i) })
            ∙ sym (carry-one c byte e);
        left = (λ i. record { numbers = left i; text = same i }) ∙ sym (left_one c byte l e);
        built = built ∙ sym (built-one c byte l (built_in s) e);
        printed = put_same (ap bytes_of taken.taken ∙ sym (print-one c byte e)) put;
        bounds = taken.bounds;
        read = omega arith;
      }
