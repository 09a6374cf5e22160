-- Bytes behind bytes: what they come to one after another is what they come to together. So a chunk is fed byte by
-- byte.
use mathlib.Core.Path.{◌≡◌, refl, sym, ◌∙◌, ap, subst}
use mathlib.Core.List.{List, [], ◌∷◌, ◌++◌}
use Prim.Native.Nat.{ℕ, ◌+◌, ◌*◌, ◌≤◌, ◌<◌}
use native.Mathlib.Numerals.{add-one}
use native.Mathlib.Omega.{arith}
use lib.ListN.{length, take, get_or, length-append}
use lib.Seq.{take-suc}
use Rattle.print.specs.Printed.{widest}
use Rattle.print.proofs.Writing.{put_same, put-none, put-behind}
use Rattle.desk.specs.Chunks.{Carry, carry_byte, carry_chunk, print_chunk}
use Rattle.desk.proofs.Chunks.{carry-append, print-append}
use Rattle.ready.specs.declared.TablesBuilt.{TablesBuilt}
use Rattle.store.specs.declared.State.{State}
use Rattle.records.specs.Left.{Slices, byte_left, chunk_left}
use Rattle.records.specs.Built.{built_in, byte_built, chunk_built}
use Rattle.records.specs.Carried.{Bounds}
use Rattle.byte.specs.Feeds.{carry_of, Fed, fed, Feeds}
use Rattle.byte.proofs.Byte.{one-fits}

pub left-append : (c : Carry) (l : Slices) (xs ys : List ℕ) →
    chunk_left c l (xs ++ ys) ≡ chunk_left (carry_chunk c xs) (chunk_left c l xs) ys
unfolding chunk_left carry_chunk
left-append c l [] ys = refl
left-append c l (x ∷ xs) ys = left-append (carry_byte c x) (byte_left c l x) xs ys

pub built-append : (c : Carry) (l : Slices) (k : TablesBuilt) (xs ys : List ℕ) →
    chunk_built c l k (xs ++ ys) ≡ chunk_built (carry_chunk c xs) (chunk_left c l xs) (chunk_built c l k xs) ys
unfolding chunk_left carry_chunk chunk_built
built-append c l k [] ys = refl
built-append c l k (x ∷ xs) ys = built-append (carry_byte c x) (byte_left c l x) (byte_built c l k x) xs ys

-- What bytes come to, and then more bytes, is what they come to together.
feeds-behind : {s : State} {l l' l'' : Slices} {xs ys before out out' : List ℕ} {at : ℕ} {r r' : Fed} →
    at ≤ length before → Feeds s l xs before at r l' out → Feeds r.state l' ys out r.wrote r' l'' out' →
    Feeds s l (xs ++ ys) before at r' l'' out'
feeds-behind {s} {l} {xs = xs} {ys = ys} {before = before} {at = at} inside f g =
    let c = carry_of s l in
    let step = f.carried in
    let together = ap (λ (d : Carry). print_chunk c xs ++ print_chunk d ys) step ∙ sym (print-append c xs ys) in
    record {
      carried = g.carried ∙ ap (λ (d : Carry). carry_chunk d ys) step ∙ sym (carry-append c xs ys);
      left = g.left ∙ (λ i. chunk_left (step i) (f.left i) ys) ∙ sym (left-append c l xs ys);
      built = g.built ∙ (λ i. chunk_built (step i) (f.left i) (f.built i) ys)
          ∙ sym (built-append c l (built_in s) xs ys);
      printed = put_same together (put-behind before at inside (print_chunk c xs) f.printed g.printed);
      bounds = g.bounds;
      read = let l = f.read in let m = g.read in let both = length-append xs ys in omega arith;
    }

-- ---------------- the loop over a chunk
module _ (s : State) (l : Slices) (chunk before : List ℕ) where
  -- The first i bytes are fed: what they come to, and at most one line is printed for each.
  pub record FedFirst (i : ℕ) (r : Fed) (after : Slices) (out : List ℕ) : Type 0 where
    pub feeds : Feeds s l (take i chunk) before 0 r after out
    pub short : r.wrote ≤ widest * i

  -- At first none is fed.
  pub fed-none : Bounds s → FedFirst 0 (fed s 0) l before
  unfolding carry_chunk chunk_left chunk_built print_chunk
  fed-none bounds =
      let none = put-none before 0 in
      let feeds : Feeds s l [] before 0 (fed s 0) l before =
      record {
        carried = refl;
        left = refl;
        built = refl;
        printed = none;
        bounds = bounds;
        read = omega arith;
      } in
      record { feeds = feeds; short = omega arith }

module _ {s : State} {l after : Slices} {chunk before out : List ℕ} {i : ℕ} {r : Fed}
    (p : FedFirst s l chunk before i r after out) where
  -- And then one byte more.
  pub fed-more : {r' : Fed} (after' : Slices) {out' : List ℕ} → i < length chunk →
      Feeds r.state after (get_or chunk i 0 ∷ []) out r.wrote r' after' out' →
      FedFirst s l chunk before (i + 1) r' after' out'
  fed-more {r'} after' {out'} h f =
      let byte = get_or chunk i 0 in
      let more : take i chunk ++ byte ∷ [] ≡ take (i + 1) chunk =
      sym (ap (λ (n : ℕ). take n chunk) (add-one i) ∙ take-suc chunk i 0 h) in
      let fits = one-fits (carry_of r.state after) byte in
      let behind = f.printed.behind in
      let short = p.short in
      let both = feeds-behind (omega arith) p.feeds f in
      let feeds = subst (λ (xs : List ℕ). Feeds s l xs before 0 r' after' out') more both in
      record { feeds = feeds; short = omega arith }
