-- A promise allows one outcome alone: what is put determines the slice.
use mathlib.Core.Path.{◌≡◌, sym, ◌∙◌}
use mathlib.Core.List.{List}
use Prim.Native.Nat.{ℕ}
use Rattle.print.specs.Put.{Put}

pub put-unique : {d xs e f : List ℕ} {at i j : ℕ} → Put d at xs e i → Put d at xs f j → (e ≡ f) × (i ≡ j)
put-unique p q = (p.written ∙ sym q.written, p.behind ∙ sym q.behind)
