-- What one visit sees, at a node that is reached: a bad row is refused with 10, and else the rows are good and both
-- halves are reached too. So a walk visits reached nodes alone, and is refused with 10 alone, exactly where a row that
-- is visited is bad.
use Rattle.std.specs.Prelude.{Option, Some, None}
use mathlib.Core.Path.{◌≡◌, refl, sym, ap, subst, ◌∙◌}
use mathlib.Core.Bool.{Bool, not, cond}
use mathlib.Core.List.{List, [], ◌∷◌, ◌++◌, append_assoc}
use Prim.Native.Nat.{ℕ, zero, suc, ◌+◌}
use native.Mathlib.Omega.{arith}
use lib.Dec.{T, ltb}
use lib.ListN.{length, length-append}
use Rattle.integers.specs.Laws.{cond_ind}
use Rattle.rules.specs.declared.Line.{Line}
use Rattle.rules.specs.declared.Refusal.{Refusal}
use Rattle.rules.specs.declared.Tally.{Tally}
use Rattle.rules.specs.declared.Reply.{Reply}
use Rattle.rules.specs.Reply.{refuses}
use Rattle.rules.specs.Walk.{next, Visit, refuse, finish, pass, halve, Walked, ended, over, spent, refused}
use Rattle.rules.specs.Walk.{on_visit, go_on, on_step, walk}
use Rattle.refusals.specs.Trace.{nodes_left, nodes_halved, nodes_of_both, visits_of, Each}
use Rattle.refusals.specs.Named.{FirstBad}

pub data Sees {S N : Type 0} (Come : N → Type 0) (Good : Type 0) (Bad : Line → ℕ → Type 0) : Visit S N → Type 0 where
  bad : {line : Line} {place : ℕ} → Bad line place → Sees Come Good Bad (refuse 10 line place)
  finishes : Good → Sees Come Good Bad finish
  passes : {g : S → S} → Good → Sees Come Good Bad (pass g)
  halves : {l r : N} → Good → Come l → Come r → Sees Come Good Bad (halve l r)

-- the visits of a walk, the nodes that it comes to, and what a visit of them sees
pub record Visits (S N : Type 0) : Type 1 where
  pub visit : N → Visit S N
  pub Come : N → Type 0
  pub Good : N → Type 0
  pub Bad : N → Line → ℕ → Type 0
  pub sees : (n : N) → Come n → Sees Come (Good n) (Bad n) (visit n)
  pub not-both : (n : N) (l : Line) (i : ℕ) → Bad n l i → ¬ Good n

-- a visit that goes by a test sees what both ways see
pub sees-cond : {S N : Type 0} {Come : N → Type 0} {Good : Type 0} {Bad : Line → ℕ → Type 0} {v w : Visit S N}
    (b : Bool) → (T b → Sees Come Good Bad v) → (T (not b) → Sees Come Good Bad w) → Sees Come Good Bad (cond b v w)
sees-cond {Come = Come} {Good = Good} {Bad = Bad} b f g = cond_ind b _ _ (Sees Come Good Bad) f g

each_append : {N : Type 0} (P : N → Type 0) (ms ns : List N) → Each P ms → Each P ns → Each P (ms ++ ns)
each_append P [] ns h k = k
each_append P (m ∷ ms) ns h k = (h.0, each_append P ms ns h.1 k)

each_last : {N : Type 0} (P : N → Type 0) (ns : List N) (n : N) → Each P (ns ++ n ∷ []) → P n
each_last P [] n h = h.0
each_last P (m ∷ ns) n h = each_last P ns n h.1

module _ {S N : Type 0} (vs : Visits S N) where
  open vs use {visit, Come, Good, Bad, sees, not-both}

  -- ---------------- a walk comes to each node that it visits

  -- of the halves, where the visit halves
  halves-come : {G : Type 0} {B : Line → ℕ → Type 0} {v : Visit S N} (go : N → N → List N) → Sees Come G B v
      → ((l r : N) → Come l → Come r → Each Come (go l r)) → Each Come (nodes_halved v go)
  halves-come go (bad b) h = tt
  halves-come go (finishes g) h = tt
  halves-come go (passes g) h = tt
  halves-come go (halves {l} {r} g p q) h = h l r p q

  both-come : (ns : List N) (w : Walked S) (go : S → Tally → List N) → Each Come ns
      → ((s : S) (v : Tally) → Each Come (go s v)) → Each Come (nodes_of_both ns w go)
  both-come ns (ended y) go h k = h
  both-come ns (over s y) go h k = each_append Come ns (go s y) h (k s y)
  both-come ns spent go h k = h
  both-come ns (refused r) go h k = h

  left-come : (m : Option Tally) (go : Tally → List N) → ((y : Tally) → Each Come (go y)) → Each Come (nodes_left m go)
  left-come (Some y) go h = h y
  left-come None go h = tt

  pub each-come : (f : ℕ) (n : N) (s : S) (y : Tally) → Come n → Each Come (visits_of visit f n s y)
  unfolding visits_of
  each-come zero n s y come = tt
  each-come (suc f) n s y come =
      left-come (next y) _ λ v. (
        come,
        halves-come _ (sees n come) λ l r p q.
            both-come _ (walk visit f l s v) _ (each-come f l s v p) (λ s' v'. each-come f r s' v' q),
      )

  -- ---------------- what the nodes that are visited from tally y on tell of what the walk comes to

  abbrev Went : List N → Tally → Tally → Type 0
  Went nodes y v = Each Good nodes × (v.visits ≡ y.visits + length nodes)

  abbrev Traced : List N → Tally → Walked S → Type 0
  Traced nodes y (ended v) = Went nodes y v
  Traced nodes y (over s v) = Went nodes y v
  Traced nodes y spent = Each Good nodes
  Traced nodes y (refused r) = FirstBad Good Bad nodes y (refuses r) × (r.number ≡ 10)

  -- after nodes that are good
  went_on : (ms ns : List N) (y v : Tally) → Went ms y v → (w : Walked S) → Traced ns v w → Traced (ms ++ ns) y w
  went_on ms ns y v h (ended x) k = (each_append _ ms ns h.0 k.0, omega (arith, h.1, k.1, length-append ms ns))
  went_on ms ns y v h (over s x) k = (each_append _ ms ns h.0 k.0, omega (arith, h.1, k.1, length-append ms ns))
  went_on ms ns y v h spent k = each_append _ ms ns h.0 k
  went_on ms ns y v h (refused r) k =
      let b = k.0 in (
        record {
          before = ms ++ b.before;
          last = b.last;
          parts = ap (ms ++◌) b.parts ∙ sym (append_assoc ms b.before (b.last ∷ []));
          earlier = each_append _ ms b.before h.0 b.earlier;
          bad = b.bad;
          counted = omega (arith, h.1, b.counted, length-append ms ns);
        },
        k.1,
      )

  -- the left half, then, where that is over, the right half
  both-traced : (ns : List N) (y : Tally) (w : Walked S) (go : S → Tally → Walked S) (nodes : S → Tally → List N)
      → Traced ns y w → ((s : S) (v : Tally) → Traced (nodes s v) v (go s v))
      → Traced (nodes_of_both ns w nodes) y (go_on w go)
  both-traced ns y (ended v) go nodes h k = h
  both-traced ns y (over s v) go nodes h k = went_on ns (nodes s v) y v h (go s v) (k s v)
  both-traced ns y spent go nodes h k = h
  both-traced ns y (refused r) go nodes h k = h

  -- one visit, that counts, and what comes of it
  step-traced : (n : N) (s : S) (y v : Tally) (go : N → N → Walked S) (nodes : N → N → List N)
      → v.visits ≡ y.visits + 1 → ((l r : N) → Come l → Come r → Traced (nodes l r) v (go l r))
      → {u : Visit S N} → Sees Come (Good n) (Bad n) u
      → Traced (n ∷ nodes_halved u nodes) y (on_step u s v go)
  step-traced n s y v go nodes c h (bad b) =
      (record { before = []; last = n; parts = refl; earlier = tt; bad = b; counted = c }, refl)
  step-traced n s y v go nodes c h (finishes g) = ((g, tt), c)
  step-traced n s y v go nodes c h (passes g) = ((g, tt), c)
  step-traced n s y v go nodes c h (halves {l} {r} g p q) =
      went_on (n ∷ []) (nodes l r) y v ((g, tt), c) (go l r) (h l r p q)

  walk-traced : (f : ℕ) (n : N) (s : S) (y : Tally) → Come n → Traced (visits_of visit f n s y) y (walk visit f n s y)
  unfolding walk visits_of
  walk-traced zero n s y come = tt
  walk-traced (suc f) n s y come =
      cond_ind (ltb y.visits y.allowance) (Some v) None
      (λ m.
      Traced (nodes_left m (λ x. n ∷ nodes_halved (visit n) (nodes x))) y (on_visit m (λ x. on_step (visit n) s x (go x))))
      (λ _.
      step-traced n s y v (go v) (nodes v) refl
      (λ l r p q.
      both-traced (visits_of visit f l s v) v (walk visit f l s v) (walk visit f r) (visits_of visit f r)
      (walk-traced f l s v p) (λ s' v'. walk-traced f r s' v' q))
      (sees n come))
      (λ _. tt)
    where
      v : Tally
      v = record { allowance = y.allowance; visits = y.visits + 1 }

      go : Tally → N → N → Walked S
      go x l r = go_on (walk visit f l s x) (walk visit f r)

      nodes : Tally → N → N → List N
      nodes x l r = nodes_of_both (visits_of visit f l s x) (walk visit f l s x) (visits_of visit f r)

  -- how many visits a walk tells that it made; one that is spent tells none
  abbrev pub Counts : ℕ → Walked S → Type 0
  Counts k (ended v) = v.visits ≡ k
  Counts k (over s v) = v.visits ≡ k
  Counts k spent = Unit {0}
  Counts k (refused r) = r.visits ≡ k

  traced-counts : (nodes : List N) (y : Tally) (w : Walked S) → Traced nodes y w → Counts (y.visits + length nodes) w
  traced-counts nodes y (ended v) h = h.1
  traced-counts nodes y (over s v) h = h.1
  traced-counts nodes y spent h = tt
  traced-counts nodes y (refused r) h = h.0.counted

  module _ (f : ℕ) (n : N) (s : S) (y : Tally) (come : Come n) where
    -- the visits are the nodes that are visited
    pub walk-counts : Counts (y.visits + length (visits_of visit f n s y)) (walk visit f n s y)
    walk-counts = traced-counts (visits_of visit f n s y) y (walk visit f n s y) (walk-traced f n s y come)

    -- a walk is refused with 10 alone, and names the first bad row
    pub first-bad : (r : Refusal) → walk visit f n s y ≡ refused r
        → FirstBad Good Bad (visits_of visit f n s y) y (refuses r) × (r.number ≡ 10)
    first-bad r e = subst (Traced (visits_of visit f n s y) y) e (walk-traced f n s y come)

    -- and where one is bad, the walk is refused
    pub bad-refused : (q : Reply) → FirstBad Good Bad (visits_of visit f n s y) y q
        → (r : Refusal) × (walk visit f n s y ≡ refused r)
    bad-refused q h = go (walk visit f n s y) refl (walk-traced f n s y come)
      where
        none : Each Good (visits_of visit f n s y) → ⊥
        none k =
            not-both h.last q.line q.place h.bad
            (each_last Good h.before h.last (subst (Each Good) h.parts k))

        go : (w : Walked S) → walk visit f n s y ≡ w → Traced (visits_of visit f n s y) y w
            → (r : Refusal) × (walk visit f n s y ≡ refused r)
        go (ended v) e k = absurd (none k.0)
        go (over x v) e k = absurd (none k.0)
        go spent e k = absurd (none k)
        go (refused r) e k = (r, e)
