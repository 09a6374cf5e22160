-- What the code does with two good rows is what the definition does, and the node that splits does so at an inner
-- point. A bad row decides a visit without it.
use mathlib.Core.Path.{◌≡◌, refl, sym, subst₂}
use mathlib.Core.Bool.{Bool, true, false, not, cond, ◌&&◌}
use mathlib.Core.List.{List}
use lib.Dec.{T, leb, leb→le, nleb→lt}
use lib.IntN.{ℤ}
use Rattle.integers.specs.Order.{yes-T}
use Rattle.rules.specs.declared.Line.TheVariants.{LineA, LineB}
use Rattle.rules.specs.declared.Pair.{Pair}
use Rattle.rules.specs.declared.Row.{Row}
use Rattle.rules.specs.Plain.{share}
use Rattle.rules.specs.Tree.{row_at}
use Rattle.rules.specs.Walk.{Visit, refuse, finish, pass}
use Rattle.rules.specs.Questions.{Nothing, leaf, size, split_in, start_of, end_of, meet_visit}
use Rattle.visits.specs.Nodes.{RowGood}
use Rattle.visits.proofs.Nodes.{larger-opens, other-opens}
use Rattle.meet_visit.specs.declared.Does.{Does}
use Rattle.meet_visit.specs.declared.Does.TheVariants.{Finishes, Passes, Halves}
use Rattle.meet_visit.specs.declared.Step.{Step}
use Rattle.meet_visit.specs.declared.Step.TheVariants.{HalveA, HalveB}
use Rattle.meet_visit.specs.Pairs.{good_at, NodeStands, Read}
use Rattle.meet_visit.specs.Steps.{step_visit, SplitsInside, opened}
use Rattle.meet_visit.specs.Steps.{nodes_apart, compared}
use Rattle.meet_visit.proofs.GoodRows.{read_of, split-inside}

-- the definition of a visit, in its parts: the segments of two leaves share a point; the pair is not dismissed; and all
-- of it, after both rows are read and good
abbrev sharing : List ℤ → List ℤ → Pair → Bool
sharing ps qs n = share (start_of ps n.a) (end_of ps n.a) (start_of qs n.b) (end_of qs n.b)

abbrev pub kept_visit : List ℤ → Row → List ℤ → Row → Pair → Visit Nothing Pair
kept_visit ps r qs q n =
    cond (leaf n.a && leaf n.b) (cond (sharing ps qs n) finish (pass (λ k. k)))
    (cond (leb (size n.b) (size n.a)) (step_visit n (HalveA (split_in r))) (step_visit n (HalveB (split_in q))))

abbrev pub compared_visit : List ℤ → Row → List ℤ → Row → Pair → Visit Nothing Pair
compared_visit ps r qs q n = cond (nodes_apart ps r qs q n) (pass (λ k. k)) (kept_visit ps r qs q n)

-- a step is such a visit, and splits inside
abbrev pub Splits : Pair → Step → Visit Nothing Pair → Type 0
Splits n o v = (step_visit n o ≡ v) × SplitsInside n o

by_side : (n : Pair) (b : Bool) (s s' : Step) (v v' : Visit Nothing Pair)
    → (T b → Splits n s v) → (T (not b) → Splits n s' v') → Splits n (cond b s s') (cond b v v')
by_side n true s s' v v' h k = h tt
by_side n false s s' v v' h k = k tt

-- what a word says of such a visit; a pair is halved by this step, and is not two leaves
pub record Says (n : Pair) (o : Step) (d : Does) (v : Visit Nothing Pair) : Type 0 where
  pub finishes : d ≡ Finishes → finish ≡ v
  pub passes : d ≡ Passes → pass (λ k. k) ≡ v
  pub halves : d ≡ Halves → Splits n o v × T (not (leaf n.a && leaf n.b))

by-test : {n : Pair} {o : Step} (b : Bool) {d d' : Does} {v v' : Visit Nothing Pair}
    → (T b → Says n o d v) → (T (not b) → Says n o d' v') → Says n o (cond b d d') (cond b v v')
by-test true h k = h tt
by-test false h k = k tt

says-finish : {n : Pair} {o : Step} → Says n o Finishes finish
says-finish = record { finishes = λ _. refl; passes = λ e. cc; halves = λ e. cc }

says-pass : {n : Pair} {o : Step} → Says n o Passes (pass (λ k. k))
says-pass = record { finishes = λ e. cc; passes = λ _. refl; halves = λ e. cc }

module _ {ps qs : List ℤ} {r q : Row} (n : Pair) (a : Read ps r n.a) (b : Read qs q n.b) where
  says-halve : {v : Visit Nothing Pair} → T (not (leaf n.a && leaf n.b)) → Splits n (opened r q n) v
      → Says n (opened r q n) Halves v
  says-halve u h = record { finishes = λ e. cc; passes = λ e. cc; halves = λ _. (h, u) }

  pub compared-says : Says n (opened r q n) (compared ps r qs q n) (compared_visit ps r qs q n)
  compared-says =
      by-test (nodes_apart ps r qs q n) (λ _. says-pass)
      (λ _. by-test (leaf n.a && leaf n.b)
      (λ _. by-test (sharing ps qs n) (λ _. says-finish) (λ _. says-pass))
      (λ u. says-halve u (by_side n (leb (size n.b) (size n.a)) _ _ _ _
      (λ k. (refl, split-inside a (larger-opens n.a n.b u (leb→le _ _ k))))
      (λ k. (refl, split-inside b (other-opens n.a n.b u (nleb→lt _ _ k)))))))

-- ---------------- what a visit comes to, by which row is bad
module _ (ps t qs t' : List ℤ) (n : Pair) where
  abbrev by_rows : Bool → Bool → Visit Nothing Pair
  by_rows a b =
      cond a (cond b (compared_visit ps (row_at t n.a.row) qs (row_at t' n.b.row) n) (refuse 10 LineB n.b.row))
      (refuse 10 LineA n.a.row)

  pub bad-a : good_at ps t n.a ≡ false → refuse 10 LineA n.a.row ≡ meet_visit ps t qs t' n
  unfolding meet_visit
  bad-a e = sym (λ i. by_rows (e i) (good_at qs t' n.b))

  pub bad-b : RowGood ps t n.a → good_at qs t' n.b ≡ false → refuse 10 LineB n.b.row ≡ meet_visit ps t qs t' n
  unfolding meet_visit
  bad-b h e = let g = yes-T (good_at ps t n.a) h in sym (λ i. by_rows (g i) (e i))

  pub both-good : RowGood ps t n.a → RowGood qs t' n.b
      → compared_visit ps (row_at t n.a.row) qs (row_at t' n.b.row) n ≡ meet_visit ps t qs t' n
  unfolding meet_visit
  both-good h k =
      let g = yes-T (good_at ps t n.a) h in
      let e = yes-T (good_at qs t' n.b) k in sym (λ i. by_rows (g i) (e i))

  -- what a word says that a visit of good rows hands back
  pub visit-says : {d : Does} → NodeStands ps t n.a → NodeStands qs t' n.b
      → let r = row_at t n.a.row in
      let q = row_at t' n.b.row in d ≡ compared ps r qs q n → Says n (opened r q n) d (meet_visit ps t qs t' n)
  visit-says h k e =
      let r = row_at t n.a.row in
      let q = row_at t' n.b.row in
      let says = compared-says n (read_of h refl) (read_of k refl) in
      subst₂ (Says n (opened r q n)) (sym e) (both-good h.row-good k.row-good) says
