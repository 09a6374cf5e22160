-- The bytes kept of the text line that has not ended, and that a promise of one byte more allows one outcome alone.
use mathlib.Core.Path.{◌≡◌, sym, ◌∙◌, ap}
use mathlib.Core.List.{List}
use Prim.Native.Nat.{ℕ, ◌≤◌}
use native.Mathlib.Omega.{arith}
use lib.ListN.{length, take}
use Rattle.std.proofs.lemmas.Grind.{common_steps}
use Rattle.desk.specs.Kept.{kept_bytes}
use Rattle.store.specs.declared.State.{State}
use Rattle.store.specs.States.{kept_left, with_pending, Keeps}

-- As many bytes are kept as are pending.
pub pending-bytes : {n : ℕ} (text : List ℕ) → length text ≡ kept_bytes → n ≤ kept_bytes → n ≡ length (take n text)
pending-bytes {n} text whole h = grind (arith, common_steps)

pub kept-size : (n : ℕ) (text : List ℕ) (b : ℕ) → length (kept_left n text b) ≡ length text
unfolding kept_left
kept-size n text b = grind (arith, common_steps)

-- Two outcomes of a byte are equal: the state, and the text line as it is kept.
pub keeps-unique : {s r r' : State} {text after after' : List ℕ} {b : ℕ} →
    length text ≡ kept_bytes → Keeps s text b r after → Keeps s text b r' after' → (r ≡ r') × (after ≡ after')
keeps-unique {s} {text = text} {after = after} {after' = after'} {b = b} whole p q =
    let size = kept-size s.pending text b in
    let many = pending-bytes after (ap length p.left ∙ size ∙ whole) p.kept in
    let many' = pending-bytes after' (ap length q.left ∙ size ∙ whole) q.kept in
    let same = many ∙ ap length (p.bytes ∙ sym q.bytes) ∙ sym many' in
    (p.state ∙ ap (with_pending s) same ∙ sym q.state, p.left ∙ sym q.left)
