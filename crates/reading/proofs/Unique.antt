-- The promise of `pass` allows one outcome alone, for every answer of `read`.
use mathlib.Core.Path.{◌≡◌, refl, sym, ◌∙◌, ap}
use mathlib.Core.List.{List}
use Prim.Native.Nat.{ℕ, zero, suc, ◌+◌}
use lib.ListN.{length, take}
use Rattle.std.specs.Prelude.{Option, None, Some}
use Rattle.store.specs.declared.State.{State}
use Rattle.records.specs.Left.{Slices}
use Rattle.byte.specs.Feeds.{Fed}
use Rattle.chunks.proofs.Unique.{Sized, feeds-unique, finishes-unique, finished-unique}
use Rattle.reading.specs.declared.Past.{Past}
use Rattle.reading.specs.declared.Next.{Next}
use Rattle.reading.specs.declared.Next.TheVariants.{More, Ended}
use Rattle.reading.specs.Passed.{Passed}

-- Two outcomes of an answer are equal: what is handed back, the state, every lent number and byte, and the slice that
-- is written.
pub passed-unique : {n : ℕ} {s s' s'' : State} {l after after' : Slices} {before chunk out out' : List ℕ}
    {r r' : Past} → (got : Option ℕ) → Sized l → Passed n s l before r s' after out got chunk →
    Passed n s l before r' s'' after' out' got chunk → (r ≡ r') × (s' ≡ s'') × (after ≡ after') × (out ≡ out')
passed-unique None size f g =
    let p = f.none refl in
    let q = g.none refl in
    (p.result ∙ sym q.result, p.state ∙ sym q.state, p.left ∙ sym q.left, p.printed ∙ sym q.printed)
passed-unique (Some zero) size f g =
    let p = f.end refl in
    let q = g.end refl in
    let same = finishes-unique p.finishes q.finishes in (
      p.result ∙ (λ i. record { wrote = same.0 i; next = Ended }) ∙ sym q.result,
      ap (λ (r : Fed). r.state) (finished-unique size p.finishes p.leaves q.finishes q.leaves),
      same.1,
      same.2,
    )
passed-unique {n} {chunk = chunk} (Some (suc k)) size f g =
    let p = f.above k refl in
    let q = g.above k refl in
    let same = feeds-unique size p.feeds q.feeds in
    let next : Next = More (n + length (take (suc k) chunk)) in (
      p.result ∙ (λ i. record { wrote = (same.0 i).wrote; next = next }) ∙ sym q.result,
      ap (λ (r : Fed). r.state) same.0,
      same.1,
      same.2,
    )
