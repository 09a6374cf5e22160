-- A table with room refuses what the described table refuses, and so what a build says is what `with_table` goes by;
-- and what readying a line leaves in its table, and leaves there again.
use mathlib.Core.Path.{◌≡◌, refl, sym, ap, ◌∙◌, subst}
use mathlib.Core.Bool.{Bool, true, false, cond, false≢true}
use mathlib.Core.List.{List, [], ◌∷◌, ◌++◌}
use mathlib.Core.Option.{Option, none, some}
use mathlib.Core.Logic.{⊎_elim}
use Prim.Native.Nat.{ℕ, ◌*◌, ◌≤◌}
use native.Mathlib.Omega.{arith}
use borrow.Author.Tests.{le-ltb}
use lib.IntN.{ℤ}
use lib.ListN.{length}
use lib.Seq.{length-take-le}
use Rattle.std.specs.Prelude.{Result, Ok, Err, MatchResult, IsErrAnd}
use Rattle.rules.specs.declared.Line.{Line}
use Rattle.rules.specs.declared.Line.TheVariants.{LineA}
use Rattle.rules.specs.declared.Refusal.{Refusal}
use Rattle.rules.specs.Sheet.{points_of, fewest}
use Rattle.rules.specs.declared.Reply.{Reply}
use Rattle.rules.specs.Reply.{checked_refusal, refuses, first_refusal}
use Rattle.rules.specs.Rows.{point_checks}
use Rattle.rules.specs.Build.{sheet_check, neighbour_check, build_refusal, table_of, built_table}
use Rattle.table_truth.specs.Buildable.{row_numbers}
use Rattle.table_truth.proofs.Rows.{≤-or->}
use Rattle.table_truth.proofs.Refusals.{buildable, none-refused}
use Rattle.table_truth.proofs.Table.{table-length, built-rows, built-length, built-buildable, built-twice}
use Rattle.desk.specs.declared.Held.{Held}
use Rattle.desk.specs.Desk.{Store, refused_at, on_build, with_table}
use Rattle.desk.specs.Kept.{store_in, Stored, table_room}
use Rattle.ready.specs.Readied.{LentLine, Rows, ReadiesLine}
use Rattle.ready.specs.Left.{clear, is_ready, table_after, StaysReady}

-- ---------------- a refusal does not depend on a table that is long enough

abbrev refusal_if : List ℤ → Bool → Option Refusal
refusal_if ps short =
    first_refusal
    (point_checks LineA ps ++ sheet_check ps ∷ neighbour_check ps
    ∷ record { holds = short; number = 6; line = LineA; place = 0 } ∷ [])

room-refusal : (ps t : List ℤ) → row_numbers ps ≤ length t → build_refusal ps t ≡ refusal_if ps false
unfolding build_refusal
room-refusal ps t h = ap (refusal_if ps) (le-ltb (length t) (row_numbers ps) h)

-- the described table has room for its own rows
own_room : (ps : List ℤ) → row_numbers ps ≤ length (table_of ps)
own_room ps = ⊎_elim (λ h. omega (arith, table-length ps h)) (λ h. omega arith) (≤-or-> fewest (points_of ps))

same-refusal : (ps t : List ℤ) → row_numbers ps ≤ length t → build_refusal ps t ≡ build_refusal ps (table_of ps)
same-refusal ps t h = room-refusal ps t h ∙ sym (room-refusal ps (table_of ps) (own_room ps))

-- ---------------- the table of a store

-- the rows of a store's points fit a table for 257 points
pub rows_fit : (h : Held) (numbers t : List ℤ) → Stored h numbers → length t ≡ table_room
    → row_numbers (store_in h numbers).points ≤ length t
rows_fit h numbers t s e =
    omega (arith, length-take-le (2 * h.count) numbers (omega (arith, s.whole, s.counted)), s.counted)

-- where the build refuses nothing, the rows stand in the table
rows-stand : (ps t : List ℤ) → build_refusal ps t ≡ none → Rows ps (built_table ps t)
rows-stand ps t e = record {
  enough = (buildable ps t e).lengths.some-points;
  fits = omega (arith, built-length ps t, (buildable ps t e).lengths.table-long);
  front = built-rows ps t e;
}

-- 13 in place of the build, what the build refuses, or the question
pub with-table : (l : Line) (s : Store) (place : ℕ) (go : List ℤ → Reply) (t : List ℤ)
    {over : Bool} {o : Option Refusal}
    → row_numbers s.points ≤ length t → s.over ≡ over → build_refusal s.points t ≡ o
    → cond over (refused_at 13 l place) (on_build l o (go (table_of s.points))) ≡ with_table l s place go
unfolding with_table
with-table l s place go t h p q =
    let r = sym (same-refusal s.points t h) ∙ q in
    sym (λ i. cond (p i) (refused_at 13 l place) (on_build l (r i) (go (table_of s.points))))

-- ---------------- what is left in the tables

module _ (s : Store) (t : List ℤ) {over : Bool} (p : s.over ≡ over) where
  -- a line stands ready where neither 13 nor its build refuses it
  pub ready-is : {o : Option Refusal} → build_refusal s.points t ≡ o → cond over false (clear o) ≡ is_ready s t
  unfolding is_ready
  ready-is q = sym (λ i. cond (p i) false (clear (q i)))

  -- its table is as it was under 13, and else as the build leaves it
  pub table_is : cond over t (built_table s.points t) ≡ table_after s t
  unfolding table_after
  table_is = sym (ap (λ (k : Bool). cond k t (built_table s.points t)) p)

-- a line that stands ready is not under 13, and its build refuses nothing
by-ready : {A : Type 0} (s : Store) (t : List ℤ) → is_ready s t ≡ true
    → (s.over ≡ false → build_refusal s.points t ≡ none → A) → A
unfolding is_ready
by-ready {A} s t e f = go s.over (build_refusal s.points t) refl refl e
  where
    go : (over : Bool) (o : Option Refusal) → s.over ≡ over → build_refusal s.points t ≡ o
        → cond over false (clear o) ≡ true → A
    go true o p q h = absurd (false≢true h)
    go false none p q h = f p q
    go false (some r) p q h = absurd (false≢true h)

-- where a line stands ready, its rows stand in its table
pub rows-ready : (s : Store) (t : List ℤ) → is_ready s t ≡ true → Rows s.points (table_after s t)
rows-ready s t e =
    by-ready s t e (λ p q. subst (Rows s.points) (table_is s t p) (rows-stand s.points t q))

-- ---------------- a table that is kept

-- a line that is readied stays ready
pub stays-ready : (s : Store) (t : List ℤ) → is_ready s t ≡ true → StaysReady s (table_after s t)
stays-ready s t e =
    by-ready s t e
    (λ p q.
    let ps = s.points in
    let u = built_table ps t in
    let built : StaysReady s u =
    record {
      ready = sym (ready-is s u p (none-refused ps u (built-buildable ps t q)));
      same = sym (table_is s u p) ∙ built-twice ps t;
    } in
    subst (StaysReady s) (table_is s t p) built)

-- to keep the table of a line that stays ready says and leaves what to build it says and leaves
pub kept_same : (l : Line) (s : Store) (place : ℕ) {t : List ℤ} → StaysReady s t → ReadiesLine l s place t (Ok tt) t
kept_same l s place {t} h =
    by-ready s t h.ready
    (λ p q. record {
      reply = λ go. with-table l s place go t (buildable s.points t q).lengths.table-long p q;
      goes = sym h.ready;
      left = sym h.same;
    })

-- ---------------- a line is readied, or not
-- what a build says, told of a line
abbrev pub told_of : Line → Result Unit Refusal → Result Unit Reply
told_of l (Ok done) = Ok done
told_of l (Err f) = Err (refuses (record { number = f.number; line = l; place = f.place; visits = f.visits }))

pub as-told : (l : Line) (b : Result Unit Refusal) {r : Result Unit Reply} {Tells : Refusal → Reply → Type 0}
    → MatchResult b (λ done. r ≡ Ok done) (λ f. IsErrAnd r (Tells f))
    → ((f : Refusal) (told : Reply) → Tells f told
    → told ≡ refuses (record { number = f.number; line = l; place = f.place; visits = f.visits }))
    → r ≡ told_of l b
as-told l (Ok done) h tells = h
as-told l (Err f) {r = Ok done} h tells = absurd h
as-told l (Err f) {r = Err told} h tells = ap Err (tells f told h)

module _ (l : Line) {h : Held} {numbers t : List ℤ} (place : ℕ) (lent : LentLine h numbers t) where
  abbrev s : Store
  s = store_in h numbers

  fit : row_numbers s.points ≤ length t
  fit = rows_fit h numbers t lent.stored lent.room

  -- 13, before the build
  pub under-13 : {told : Reply} → h.over ≡ true → told ≡ refused_at 13 l place → ReadiesLine l s place t (Err told) t
  under-13 over e = record {
    reply = λ go. e ∙ with-table l s place go t fit over refl;
    goes = ready-is s t over refl;
    left = table_is s t over;
  }

  -- what the build says decides, and what it leaves in the table
  pub built-readies : {lent after : List ℤ} (b : Result Unit Refusal) {r : Result Unit Reply} → h.over ≡ false
      → lent ≡ s.points → checked_refusal b ≡ build_refusal lent t → after ≡ built_table lent t → r ≡ told_of l b
      → ReadiesLine l s place t r after
  built-readies {lent} {after} b {r} whole same says leaves told =
      rw told (outcome b (says ∙ ap (λ (ps : List ℤ). build_refusal ps t) same))
    where
      left : after ≡ table_after s t
      left = leaves ∙ ap (λ (ps : List ℤ). built_table ps t) same ∙ table_is s t whole

      outcome : (b : Result Unit Refusal) → checked_refusal b ≡ build_refusal s.points t
          → ReadiesLine l s place t (told_of l b) after
      outcome (Ok done) e = record {
        reply = λ go. with-table l s place go t fit whole (sym e);
        goes = ready-is s t whole (sym e);
        left = left;
      }
      outcome (Err f) e = record {
        reply = λ go. with-table l s place go t fit whole (sym e);
        goes = ready-is s t whole (sym e);
        left = left;
      }
