-- The end of the input: where bytes are pending they are a text line, which ends as if a line feed came.
use mathlib.Core.Path.{◌≡◌, refl, ◌∙◌}
use mathlib.Core.List.{List, [], ◌∷◌}
use Prim.Native.Nat.{ℕ, ◌<◌}
use native.Mathlib.Omega.{arith}
use lib.ListN.{length}
use Rattle.words.specs.Fields.{line_feed}
use Rattle.print.proofs.Writing.{put_same}
use Rattle.desk.specs.Desk.{Desk, take_text, bytes_of}
use Rattle.desk.specs.Chunks.{last_line}
use Rattle.desk.specs.Kept.{kept_bytes}
use Rattle.store.specs.declared.State.{State}
use Rattle.store.proofs.Texts.{pending-bytes}
use Rattle.records.specs.Left.{Numbers, Slices, text_left, last_left}
use Rattle.records.specs.Carried.{Bounds}
use Rattle.byte.specs.Feeds.{carry_of, Fed, Feeds}
use Rattle.chunks.specs.Finishes.{Finishes, Leaves}
use Rattle.byte.proofs.Byte.{left_one, print-one}

last-prints : (d : Desk) (text : List ℕ) → 0 < length text → bytes_of (take_text d text) ≡ last_line d text
last-prints d [] h = absurd (omega arith)
last-prints d (x ∷ xs) h = refl

last-leaves : (d : Desk) (n : Numbers) (text : List ℕ) → 0 < length text → text_left d n text ≡ last_left d n text
last-leaves d n [] h = absurd (omega arith)
last-leaves d n (x ∷ xs) h = refl

module _ (s : State) (l : Slices) (out : List ℕ) where
  -- Where bytes are pending, a line feed ends their text line.
  pub last-ends : {r : Fed} (after : Slices) {out' : List ℕ} →
      length l.text ≡ kept_bytes → Bounds s → (s.pending ≡ 0 → ⊥) →
      Feeds s l (line_feed ∷ []) out 0 r after out' →
      Finishes s l out r.wrote after out' × Leaves s l out r after out'
  last-ends after whole bounds any f =
      let c = carry_of s l in
      let all = pending-bytes l.text whole bounds.kept in
      let some : 0 < length c.pending = omega arith in
      let numbers = last-leaves c.desk l.numbers c.pending some in (
        record {
          left = f.left ∙ left_one c line_feed l refl ∙ (λ i. record { numbers = numbers i; text = l.text });
          printed = put_same (print-one c line_feed refl ∙ last-prints c.desk c.pending some) f.printed;
        },
        record { same = λ e. absurd (any e); ended = λ _. f },
      )
