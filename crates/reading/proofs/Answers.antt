-- What each answer of `read` comes to, and what follows for all of them.
use mathlib.Core.Path.{◌≡◌, refl, ap, subst}
use mathlib.Core.List.{List, ◌++◌}
use Prim.Native.Nat.{ℕ, zero, suc, ◌+◌, ◌<◌, ◌≤◌}
use native.Mathlib.Omega.{arith}
use lib.ListN.{length, take, length-take, length-append}
use Rattle.std.specs.Prelude.{Option, None, Some}
use Rattle.print.proofs.Writing.{put-within}
use Rattle.store.specs.declared.State.{State}
use Rattle.records.specs.Left.{Slices}
use Rattle.byte.specs.Feeds.{fed, Feeds}
use Rattle.reading.specs.declared.Past.{Past}
use Rattle.reading.specs.declared.Next.TheVariants.{More}
use Rattle.reading.specs.After.{AfterBytes}
use Rattle.reading.specs.Passed.{GoesOn, Passed}
use Rattle.reading.proofs.After.{after_more}

-- Above 0 an answer is the number of bytes that came.
pub answer-goes : {n : ℕ} {s s' : State} {l after : Slices} {before chunk out bytes : List ℕ} (got : ℕ) {wrote : ℕ} →
    (got ≡ 0 → ⊥) → bytes ≡ take got chunk → Feeds s l bytes before 0 (fed s' wrote) after out →
    Passed n s l before (record { wrote = wrote; next = More (n + length bytes) }) s' after out (Some got) chunk
answer-goes zero any came f = absurd (any refl)
answer-goes {n} {s} {s'} {l} {after} {before} {chunk} {out} {bytes} (suc k) {wrote} any came f =
    let r : Past = record { wrote = wrote; next = More (n + length bytes) } in
    let goes : GoesOn n s l before r s' after out bytes =
    record { result = refl; feeds = f; behind = λ input p. after_more p f } in
    record {
      none = λ e. cc;
      end = λ e. absurd (let never : suc k ≡ 0 = cc in omega arith);
      above = λ m e. let same : bytes ≡ take (suc m) chunk = cc in subst (GoesOn n s l before r s' after out) same goes;
    }

-- ---------------- what follows for all of them
module _ {n : ℕ} {s s' : State} {l after : Slices} {before chunk out : List ℕ} {r : Past} where
  -- What is to be written stands within its slice.
  pub within : (got : Option ℕ) → Passed n s l before r s' after out got chunk → r.wrote ≤ length out
  within None p = let none = ap (λ (r : Past). r.wrote) (p.none refl).result in omega arith
  within (Some zero) p = put-within (p.end refl).finishes.printed
  within (Some (suc k)) p = put-within (p.above k refl).feeds.printed

  -- Where there is more to read, bytes came, and what is held is held past them.
  pub goes_on : (got : Option ℕ) {now : ℕ} → Passed n s l before r s' after out got chunk → r.next ≡ More now →
      AfterBytes n s l → 0 < length chunk → AfterBytes now s' after × (n < now)
  goes_on None p e held some = let was = ap (λ (r : Past). r.next) (p.none refl).result in cc
  goes_on (Some zero) p e held some = let was = ap (λ (r : Past). r.next) (p.end refl).result in cc
  goes_on (Some (suc k)) {now} p e held some =
      let came = p.above k refl in
      let bytes = take (suc k) chunk in
      let both = length-append held.input bytes in
      let was = ap (λ (r : Past). r.next) came.result in
      let many : now ≡ n + length bytes = cc in
      let short = length-take (suc k) chunk in
      let count = held.count in
      let further = came.behind held.input held.after in
      (record { input = held.input ++ bytes; count = omega arith; after = further }, omega arith)
