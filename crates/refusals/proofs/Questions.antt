-- NEAR, IN and MEET: what a visit of each sees, and what follows for any question that is answered by one walk after
-- checks.
use mathlib.Core.Path.{◌≡◌, refl, sym, ◌∙◌, ap, subst}
use mathlib.Core.Bool.{Bool, true, false, ◌&&◌}
use mathlib.Core.List.{List, [], ◌∷◌}
use mathlib.Core.Logic.{◌↔◌, ◌⊎◌, ◌≢◌, inl, inr, ⊎_elim}
use mathlib.Core.Option.{Option, none}
use Prim.Native.Nat.{ℕ, ◌+◌, ◌≤◌, ◌<◌}
use native.Mathlib.Omega.{arith}
use lib.Dec.{T, T_not, leb, leb→le, nleb→lt}
use lib.IntN.{ℤ}
use lib.ListN.{length, length-append}
use Rattle.visits.proofs.Visits.{node_visit, pair_apart, pair_shares}
use Rattle.integers.specs.Laws.{option-ind}
use Rattle.rules.specs.declared.Line.{Line}
use Rattle.rules.specs.declared.Line.TheVariants.{LineA, LineB}
use Rattle.rules.specs.declared.Node.{Node}
use Rattle.rules.specs.declared.Pair.{Pair}
use Rattle.rules.specs.declared.Point.{Point}
use Rattle.rules.specs.declared.Refusal.{Refusal}
use Rattle.rules.specs.declared.Tally.{Tally}
use Rattle.rules.specs.Sheet.{segments_of}
use Rattle.rules.specs.Tree.{row_at}
use Rattle.rules.specs.Plain.{within, on_segment}
use Rattle.rules.specs.declared.Word.TheVariants.{UNDECIDED}
use Rattle.rules.specs.declared.Reply.{Reply}
use Rattle.rules.specs.Reply.{Check, first_refusal, or_refused, refuses}
use Rattle.rules.specs.Rows.{good}
use Rattle.rules.specs.Walk.{Visit, Walked, ended, over, spent, refused, fresh, walk}
use Rattle.rules.specs.Questions.{root, leaf, size, Nothing, read_row, start_of}
use Rattle.rules.specs.Questions.{end_of, heading_of, far_from, near_visit, yes_or_no, near_checks, meet_visit}
use Rattle.rules.specs.Questions.{meet_checks, clear_of, in_visit, side_of_ring, in_checks}
use Rattle.visits.specs.Nodes.{RowGood}
use Rattle.visits.specs.Reached.{Reached, at-root, to-left, to-right, PairReached}
use Rattle.visits.proofs.Nodes.{larger-opens, other-opens}
use Rattle.refusals.specs.Reason.{Reason}
use Rattle.refusals.specs.Trace.{visits_of}
use Rattle.refusals.specs.Named.{FirstBad, RowBad, PairGood, PairBad, Counted}
use Rattle.refusals.proofs.First.{first-exactly, number-exactly, below, after_read, number-last}
use Rattle.refusals.proofs.Sees.{Sees, bad, finishes, passes, halves, Visits, sees-cond}
use Rattle.refusals.proofs.Sees.{first-bad, bad-refused, Counts, walk-counts}

-- ---------------- one visit

-- a row is read first, and refused where it is bad
read : {S N : Type 0} {Come : N → Type 0} {Good : Type 0} {Bad : Line → ℕ → Type 0} {v : Visit S N}
    (l : Line) (ps t : List ℤ) (n : Node) → (¬ RowGood ps t n → Bad l n.row)
    → (RowGood ps t n → Sees Come Good Bad v) → Sees Come Good Bad (read_row l ps t n (λ _. v))
read l ps t n b g =
    let fine = good ps (row_at t n.row) n.first n.last in
    sees-cond fine g (λ e. bad (b (T_not fine e)))

-- a visit of one node: its row is bad, or it is dismissed, or a leaf gets the exact test, or its halves are visited
node-sees : {S : Type 0} (l : Line) (ps t : List ℤ) (n : Node) → Reached ps t n → (dismissed exact : Bool) (h : S → S)
    → Sees (Reached ps t) (RowGood ps t n) (RowBad l ps t n) (node_visit l ps t n dismissed exact h)
node-sees l ps t n c dismissed exact h =
    read l ps t n (λ b. (b, refl, refl)) λ g.
    sees-cond dismissed (λ _. passes g) λ _.
    sees-cond (leaf n) (λ _. sees-cond exact (λ _. finishes g) (λ _. passes g)) λ e.
    let more = nleb→lt _ _ e in halves g (to-left c g more) (to-right c g more)

pub near-sees : (l : Line) (ps t : List ℤ) (z : Point) (D : ℤ) (n : Node) → Reached ps t n
    → Sees (Reached ps t) (RowGood ps t n) (RowBad l ps t n) (near_visit l ps t z D n)
unfolding near_visit
near-sees l ps t z D n c =
    node-sees l ps t n c (far_from (row_at t n.row) (start_of ps n) (heading_of ps n) z D)
    (within z (start_of ps n) (end_of ps n) D) _

pub in-sees : (ps t : List ℤ) (z : Point) (n : Node) → Reached ps t n
    → Sees (Reached ps t) (RowGood ps t n) (RowBad LineA ps t n) (in_visit ps t z n)
unfolding in_visit
in-sees ps t z n c =
    node-sees LineA ps t n c (clear_of (row_at t n.row) (start_of ps n) (heading_of ps n) z)
    (on_segment z (start_of ps n) (end_of ps n)) _

pub meet-sees : (ps t qs t' : List ℤ) (n : Pair) → PairReached ps t qs t' n
    → Sees (PairReached ps t qs t') (PairGood ps t qs t' n) (PairBad ps t qs t' n) (meet_visit ps t qs t' n)
unfolding meet_visit
meet-sees ps t qs t' n c =
    let a = n.a in
    let b = n.b in
    read LineA ps t a (λ e. inl (e, refl, refl)) λ g.
    read LineB qs t' b (λ e. inr (g, (e, refl, refl))) λ h.
    sees-cond (pair_apart ps t qs t' n) (λ _. passes (g, h)) λ _.
    sees-cond (leaf a && leaf b)
    (λ _. sees-cond (pair_shares ps qs n) (λ _. finishes (g, h)) (λ _. passes (g, h))) λ e.
    sees-cond (leb (size b) (size a))
    (λ k.
    let more = larger-opens a b e (leb→le _ _ k) in
    halves (g, h) (to-left c.0 g more, c.1) (to-right c.0 g more, c.1))
    (λ k.
    let more = other-opens a b e (nleb→lt _ _ k) in
    halves (g, h) (c.0, to-left c.1 h more) (c.0, to-right c.1 h more))

-- ---------------- the visits of a walk

abbrev pub near-visits : Line → List ℤ → List ℤ → Point → ℤ → Visits Nothing Node
near-visits l ps t z D = record {
  visit = near_visit l ps t z D;
  Come = Reached ps t;
  Good = RowGood ps t;
  Bad = RowBad l ps t;
  sees = near-sees l ps t z D;
  not-both = λ n m i b g. b.0 g;
}

abbrev pub in-visits : List ℤ → List ℤ → Point → Visits Bool Node
in-visits ps t z = record {
  visit = in_visit ps t z;
  Come = Reached ps t;
  Good = RowGood ps t;
  Bad = RowBad LineA ps t;
  sees = in-sees ps t z;
  not-both = λ n m i b g. b.0 g;
}

abbrev pub meet-visits : List ℤ → List ℤ → List ℤ → List ℤ → Visits Nothing Pair
meet-visits ps t qs t' = record {
  visit = meet_visit ps t qs t';
  Come = PairReached ps t qs t';
  Good = PairGood ps t qs t';
  Bad = PairBad ps t qs t';
  sees = meet-sees ps t qs t';
  not-both = λ n m i b g. ⊎_elim (λ h. h.0 g.0) (λ h. h.1.0 g.1) b;
}

-- ---------------- a question that is answered by one walk after checks

-- what a reply tells of its walk: the visits made, that none was left, or the refusal
abbrev pub Tells : {S : Type 0} → Walked S → Reply → Type 0
Tells (ended y) r = (r.number ≡ 0) × (r.visits ≡ y.visits)
Tells (over s y) r = (r.number ≡ 0) × (r.visits ≡ y.visits)
Tells spent r = (r.number ≡ 0) × (r.word ≡ UNDECIDED)
Tells (refused f) r = r ≡ refuses f

pub yes-or-no-tells : (a : ℕ) (w : Walked Nothing) → Tells w (yes_or_no a w)
yes-or-no-tells a (ended y) = (refl, refl)
yes-or-no-tells a (over s y) = (refl, refl)
yes-or-no-tells a spent = (refl, refl)
yes-or-no-tells a (refused r) = refl

pub side-tells : (a : ℕ) (w : Walked Bool) → Tells w (side_of_ring a w)
side-tells a (ended y) = (refl, refl)
side-tells a (over true y) = (refl, refl)
side-tells a (over false y) = (refl, refl)
side-tells a spent = (refl, refl)
side-tells a (refused r) = refl

-- what does not reply 0 was refused
zero-or-refused : {S : Type 0} (w : Walked S) (r : Reply) → Tells w r
    → (r.number ≡ 0) ⊎ ((f : Refusal) × (w ≡ refused f))
zero-or-refused (ended y) r t = inl t.0
zero-or-refused (over s y) r t = inl t.0
zero-or-refused spent r t = inl t.0
zero-or-refused (refused f) r t = inr (f, refl)

pub record Question (S N : Type 0) : Type 1 where
  pub visits : Visits S N
  pub levels : ℕ
  pub first : N
  pub count : S
  pub reply : ℕ → Walked S → Reply
  pub told : (a : ℕ) (w : Walked S) → Tells w (reply a w)
  pub checks : List Check
  pub few : T (below 10 checks)
  pub come : visits.Come first

abbrev pub near-question : List ℤ → List ℤ → Point → ℤ → Question Nothing Node
near-question ps t z D = record {
  visits = near-visits LineA ps t z D;
  levels = segments_of ps;
  first = root ps;
  count = tt;
  reply = yes_or_no;
  told = yes-or-no-tells;
  checks = near_checks ps t z D;
  few = tt;
  come = at-root;
}

abbrev pub in-question : List ℤ → List ℤ → Point → Question Bool Node
in-question ps t z = record {
  visits = in-visits ps t z;
  levels = segments_of ps;
  first = root ps;
  count = false;
  reply = side_of_ring;
  told = side-tells;
  checks = in_checks ps t z;
  few = tt;
  come = at-root;
}

abbrev pub meet-question : List ℤ → List ℤ → List ℤ → List ℤ → Question Nothing Pair
meet-question ps t qs t' = record {
  visits = meet-visits ps t qs t';
  levels = segments_of ps + segments_of qs;
  first = record { a = root ps; b = root qs };
  count = tt;
  reply = yes_or_no;
  told = yes-or-no-tells;
  checks = meet_checks ps t qs t';
  few = tt;
  come = (at-root, at-root);
}

-- an early refusal has no visits, so a reply that has met a bad row is none
pub bad-late : {N : Type 0} {Good : N → Type 0} {Bad : N → Line → ℕ → Type 0} (ks : List Check) (r : Reply)
    (nodes : List N) (y : Tally) → FirstBad Good Bad nodes y (or_refused (first_refusal ks) r) → first_refusal ks ≡ none
bad-late {Good = Good} {Bad = Bad} ks r nodes y =
    option-ind (λ o. FirstBad Good Bad nodes y (or_refused o r) → first_refusal ks ≡ none) (first_refusal ks) (λ e h. e)
    (λ f e h.
    let visits : f.visits ≡ 0 = ap (λ (g : Refusal). g.visits) ((first-exactly ks f).0 e).told in
    let more = ap length h.parts ∙ length-append h.before (h.last ∷ []) in
    absurd (omega (arith, h.counted)))

module _ {S N : Type 0} (q : Question S N) (a : ℕ) where
  open q use {visits, levels, first, count, reply, told, checks, few, come}

  abbrev came : Walked S
  came = walk visits.visit levels first count (fresh a)

  abbrev replied : Reply
  replied = or_refused (first_refusal checks) (reply a came)

  -- the first bad row of those that are visited
  abbrev Named : Reply → Type 0
  Named r = FirstBad visits.Good visits.Bad (visits_of visits.visit levels first count (fresh a)) (fresh a) r

  reply-at : (r : Refusal) → came ≡ refused r → reply a came ≡ refuses r
  reply-at r w = ap (reply a) w ∙ told a (refused r)

  -- after the checks a number is that of a refused walk: 10, at the first bad row
  late : (k : ℕ) → 0 < k → (reply a came).number ≡ k → Named (reply a came) × (k ≡ 10)
  late k p h =
      ⊎_elim (λ z. absurd (omega arith)) (λ w.
      let b = first-bad visits levels first count (fresh a) come w.0 w.1 in
      let s = reply-at w.0 w.1 in
      (subst Named (sym s) b.0, sym h ∙ ap (λ (x : Reply). x.number) s ∙ b.1))
      (zero-or-refused came (reply a came) (told a came))

  -- it replies with a number below 10 exactly if the first of its checks that holds has that number
  pub early-exactly : (k : ℕ) → 0 < k → k < 10
      → (replied.number ≡ k) ↔ ((f : Refusal) × Reason checks f × (f.number ≡ k))
  early-exactly k p u = number-exactly checks _ k (λ e h. let ten = (late k p h).1 in omega arith)

  -- it replies 10 exactly where a row that is visited is bad for the range handed down to it, and names the first such
  pub ten-exactly : (replied.number ≡ 10) ↔ Named replied
  ten-exactly = (
    after_read 10 10 checks _ Named few (omega arith) (λ e h. (late 10 (omega arith) h).0),
    λ h.
        let e = bad-late checks _ _ (fresh a) h in
        let w = bad-refused visits levels first count (fresh a) come replied h in
        ap (λ (o : Option Refusal). (or_refused o (reply a came)).number) e
        ∙ ap (λ (x : Reply). x.number) (reply-at w.0 w.1)
        ∙ (first-bad visits levels first count (fresh a) come w.0 w.1).1,
  )

  -- it tells as many visits as nodes are visited
  pub visits-counted : Counted checks replied (visits_of visits.visit levels first count (fresh a))
  visits-counted e =
      subst (λ (o : Option Refusal). (or_refused o (reply a came)).word ≢ UNDECIDED
      → (or_refused o (reply a came)).visits ≡ length (visits_of visits.visit levels first count (fresh a))) (sym e)
      (λ d. by came (reply a came) (told a came) (walk-counts visits levels first count (fresh a) come) d ∙ omega arith)
    where
      by : {k : ℕ} (w : Walked S) (r : Reply) → Tells w r → Counts visits k w → r.word ≢ UNDECIDED → r.visits ≡ k
      by (ended y) r t c d = t.1 ∙ c
      by (over s y) r t c d = t.1 ∙ c
      by spent r t c d = absurd (d t.1)
      by (refused f) r t c d = ap (λ (x : Reply). x.visits) t ∙ c

  -- and with no number above 10
  pub ten-last : replied.number ≤ 10
  ten-last = number-last 10 checks (reply a came) few (λ e k p h. let ten = (late k p h).1 in omega arith)
