-- Which table is accepted, and which row a refusal names, row by row and not by the order of a recursion: accepted
-- where each of the 2n - 1 rows is good and holds the points of its run; else the row that is told is at fault, and
-- every lower row is fine.
use mathlib.Core.Path.{◌≡◌, refl, sym, ap, ◌∙◌, subst}
use mathlib.Core.Bool.{cond}
use mathlib.Core.List.{List}
use mathlib.Core.Logic.{⊎_elim, ◌↔◌}
use mathlib.Core.Option.{Option, none, some}
use Prim.Native.Nat.{ℕ, zero, suc, ◌+◌, ◌≤◌, ◌<◌}
use native.Mathlib.Nat.{le_antisymm}
use native.Mathlib.Omega.{arith}
use lib.Dec.{T_not, leb→le}
use lib.IntN.{ℤ}
use mir.Facts.{leb_no}
use Rattle.integers.specs.Laws.{cond_ind, option-ind}
use Rattle.rules.specs.declared.Line.TheVariants.{LineA}
use Rattle.rules.specs.declared.Node.{Node}
use Rattle.rules.specs.declared.Refusal.{Refusal}
use Rattle.rules.specs.Sheet.{segments_of}
use Rattle.rules.specs.Tree.{row_at, row_count}
use Rattle.rules.specs.Rows.{good}
use Rattle.rules.specs.Reply.{or_else}
use Rattle.rules.specs.Questions.{root, leaf}
use Rattle.rules.specs.Build.{row_holds, build_refusal}
use Rattle.rules.specs.Check.{read_from, fault, row_fault, fault_from, table_fault, check_refusal}
use Rattle.visits.specs.Nodes.{RowGood}
use Rattle.visits.specs.Reached.{left_half, right_half, Reached, at-root}
use Rattle.visits.proofs.Nodes.{good-inner, root-fits, fits-row}
use Rattle.table_truth.proofs.Refusals.{buildable, some-segment}
use Rattle.table_truth.proofs.Rows.{≤-or->}
use Rattle.checked.specs.Faults.{RowHolds, Fault, not_good, leaves-out, FineRow, EveryRowFine, LowestFault}
use Rattle.checked.proofs.Under.{Under, here, on-left, on-right, More, under-reached, reached-under, under-from}
use Rattle.checked.proofs.Under.{under-fits, left-before, under-once, under-every}
use Rattle.checked.proofs.Sound.{both-none}

some-once : {a b : Refusal} → some a ≡ some b → a ≡ b
some-once e = cc

module _ (ps t : List ℤ) where
  abbrev Fine : Node → Type 0
  Fine n = RowGood ps t n × RowHolds ps t n

  -- a row at fault is not fine, and is at fault for one number
  fault-not-fine : {n : Node} {k : ℕ} → Fault ps t n k → ¬ Fine n
  fault-not-fine (not_good b) h = b h.0
  fault-not-fine (leaves-out g b) h = b h.1

  fault-once : {n : Node} {j k : ℕ} → Fault ps t n j → Fault ps t n k → j ≡ k
  fault-once (not_good b) (not_good c) = refl
  fault-once (not_good b) (leaves-out g c) = absurd (b g)
  fault-once (leaves-out g b) (not_good c) = absurd (c g)
  fault-once (leaves-out g b) (leaves-out h c) = refl

  -- ---------------- what the checker finds under a node

  -- a node under n that is at fault, the nodes of lower rows being fine
  record Found (n : Node) (f : Refusal) : Type 0 where
    node : Node
    number : ℕ
    under : Under ps t n node
    at-fault : Fault ps t node number
    told : some f ≡ fault number node
    lower : (m : Node) → Under ps t n m → m.row < node.row → Fine m

  abbrev Finds : Node → Option Refusal → Type 0
  Finds n none = (m : Node) → Under ps t n m → Fine m
  Finds n (some f) = Found n f

  -- its own row
  abbrev FindsOwn : Node → Option Refusal → Type 0
  FindsOwn n none = Fine n
  FindsOwn n (some f) = (k : ℕ) × Fault ps t n k × (some f ≡ fault k n)

  own-found : (n : Node) → FindsOwn n (row_fault ps (row_at t n.row) n)
  unfolding row_fault
  own-found n =
      cond_ind (good ps (row_at t n.row) n.first n.last) _ _ (FindsOwn n)
      (λ g.
      cond_ind (row_holds ps (row_at t n.row) n.first n.last) none (fault 22 n) (FindsOwn n) (λ h. (g, h))
      (λ b. (22, leaves-out g (T_not (row_holds ps (row_at t n.row) n.first n.last) b), refl)))
      (λ b. (21, not_good (T_not (good ps (row_at t n.row) n.first n.last) b), refl))

  own_first : (n : Node) (o p : Option Refusal) → FindsOwn n o → (Fine n → Finds n p) → Finds n (or_else o p)
  own_first n none p h next = next h
  own_first n (some f) p h next = record {
    node = n;
    number = h.0;
    under = here;
    at-fault = h.1;
    told = h.2;
    lower = λ m u l. let k = under-from ps t u in absurd (omega arith);
  }

  -- both halves of a node whose own row is fine
  module _ (n : Node) (fine : Fine n) (more : More ps t n) where
    abbrev g : RowGood ps t n
    g = fine.0

    -- what is found in a half is found in the node
    from-half : {half : Node} {f : Refusal} (h : Found half f) → Under ps t n h.node
        → ((m : Node) → Under ps t n m → m.row < h.node.row → Fine m) → Found n f
    from-half h under lower = record {
      node = h.node;
      number = h.number;
      under = under;
      at-fault = h.at-fault;
      told = h.told;
      lower = lower;
    }

    halves : (o p : Option Refusal) → Finds (left_half t n) o → Finds (right_half t n) p → Finds n (or_else o p)
    halves none none a b = each
      where
        each : (m : Node) → Under ps t n m → Fine m
        each m here = fine
        each m (on-left _ _ u) = a m u
        each m (on-right _ _ u) = b m u
    halves none (some f) a b = from-half b (on-right g more b.under) each
      where
        each : (m : Node) → Under ps t n m → m.row < b.node.row → Fine m
        each m here l = fine
        each m (on-left _ _ u) l = a m u
        each m (on-right _ _ u) l = b.lower m u l
    halves (some f) p a b = from-half a (on-left g more a.under) each
      where
        each : (m : Node) → Under ps t n m → m.row < a.node.row → Fine m
        each m here l = fine
        each m (on-left _ _ u) l = a.lower m u l
        each m (on-right _ _ u) l =
            let k = under-from ps t u in let j = left-before ps t n g more a.under in absurd (omega arith)

  -- a leaf has nothing under it
  only-leaf : (n : Node) → Fine n → n.last ≤ n.first + 1 → Finds n none
  only-leaf n fine l m here = fine
  only-leaf n fine l m (on-left _ more u) = absurd (omega arith)
  only-leaf n fine l m (on-right _ more u) = absurd (omega arith)

  finds : (f : ℕ) (n : Node) → n.first < n.last → n.last ≤ f + n.first → Finds n (fault_from (read_from t) f ps n)
  unfolding fault_from
  finds zero n l e = absurd (omega arith)
  finds (suc f) n l e =
      let left = fault_from (read_from t) f ps (left_half t n) in
      let right = fault_from (read_from t) f ps (right_half t n) in
      let below = cond (leaf n) none (or_else left right) in
      own_first n (row_fault ps (row_at t n.row) n) below (own-found n) λ fine.
      cond_ind (leaf n) none (or_else left right) (Finds n) (λ h. only-leaf n fine (leb→le _ _ h)) λ h.
      let more = leb_no h in
      let i = good-inner ps t n fine.0 more in
      halves n fine more left right (finds f (left_half t n) i.above (omega (arith, i.below)))
      (finds f (right_half t n) i.below (omega (arith, i.above)))

  -- ---------------- of a whole table that could be built

  module _ (built : build_refusal ps t ≡ none) where
    n≥1 : 1 ≤ segments_of ps
    n≥1 = some-segment (buildable ps t built)

    whole-finds : Finds (root ps) (table_fault ps t)
    unfolding table_fault
    whole-finds = finds (segments_of ps) (root ps) n≥1 (omega arith)

    -- nodes of one row are one
    same-node : {a b : Node} → Reached ps t a → Reached ps t b → a.row ≡ b.row → a ≡ b
    same-node a b e = under-once ps t (reached-under ps t a) (reached-under ps t b) e

    -- a row whose lower rows are fine is some node's
    fine-row : (k : ℕ) → k < row_count (segments_of ps) → ((m : Node) → Under ps t (root ps) m → m.row ≤ k → Fine m)
        → FineRow ps t k
    fine-row k l h =
        let x = under-every ps t (segments_of ps) (root ps) k n≥1 (omega arith) (omega arith) (omega (arith, n≥1))
        (λ m u b. (h m u (omega arith)).0) in
        let y = h x.0 x.1 (omega (arith, x.2)) in
        record {
          node = x.0;
          reached = under-reached ps t at-root x.1;
          here = x.2;
          row-good = y.0;
          row-holds = y.1;
        }

    -- a fine row is the row of no node at fault
    fine-not-fault : {n : Node} {k : ℕ} → Reached ps t n → Fault ps t n k → ¬ FineRow ps t n.row
    fine-not-fault h b r =
        let e = same-node r.reached h r.here in
        fault-not-fine b (subst Fine e (r.row-good, r.row-holds))

    -- a node under the root has its row among the 2n - 1
    row_in : {m : Node} → Under ps t (root ps) m → m.row < row_count (segments_of ps)
    row_in u = fits-row (under-fits ps t (root-fits ps n≥1) u)

    -- nothing is found exactly where every row is fine
    every-fine : table_fault ps t ≡ none → EveryRowFine ps t
    every-fine e k l = fine-row k l (λ m u _. subst (Finds (root ps)) e whole-finds m u)

    fine-every : EveryRowFine ps t → table_fault ps t ≡ none
    fine-every h =
        option-ind (λ o. o ≡ none) (table_fault ps t) (λ _. refl) λ f e.
        let r = subst (Finds (root ps)) e whole-finds in
        absurd (fine-not-fault (under-reached ps t at-root r.under) r.at-fault
        (h r.node.row (row_in r.under)))

    -- what is found is the lowest row at fault ..
    found-lowest : (f : Refusal) → table_fault ps t ≡ some f → LowestFault ps t f
    found-lowest f e =
        let r = subst (Finds (root ps)) e whole-finds in
        let below = row_in r.under in
        record {
          node = r.node;
          number = r.number;
          reached = under-reached ps t at-root r.under;
          fault = r.at-fault;
          told = some-once r.told;
          lower = λ k l. fine-row k (omega arith) (λ m u b. r.lower m u (omega arith));
        }

    -- .. of which there is one
    not_lower : {f g : Refusal} → (x : LowestFault ps t f) (y : LowestFault ps t g) → y.node.row ≤ x.node.row
    not_lower x y =
        ⊎_elim (λ l. l) (λ l. absurd (fine-not-fault x.reached x.fault (y.lower x.node.row l)))
        (≤-or-> y.node.row x.node.row)

    one-lowest : {f g : Refusal} → LowestFault ps t f → LowestFault ps t g → f ≡ g
    one-lowest a b =
        let e = same-node a.reached b.reached (le_antisymm (not_lower b a) (not_lower a b)) in
        let k = fault-once (subst (λ (m : Node). Fault ps t m a.number) e a.fault) b.fault in
        a.told ∙ (λ i. record { number = k i; line = LineA; place = (e i).row; visits = 0 }) ∙ sym b.told

    lowest-found : (f : Refusal) → LowestFault ps t f → table_fault ps t ≡ some f
    lowest-found f h =
        option-ind (λ o. o ≡ some f) (table_fault ps t)
        (λ e.
        let fine = every-fine e h.node.row (row_in (reached-under ps t h.reached)) in
        absurd (fine-not-fault h.reached h.fault fine))
        (λ g e. ap some (one-lowest (found-lowest g e) h))

  -- ---------------- the checker

  -- accepted exactly where building would not be refused, and each of the 2n - 1 rows is fine
  pub accepted-exactly : (check_refusal ps t ≡ none) ↔ ((build_refusal ps t ≡ none) × EveryRowFine ps t)
  unfolding check_refusal
  accepted-exactly = (
    λ e. let h = both-none (build_refusal ps t) (table_fault ps t) e in (h.0, every-fine h.0 h.1),
    λ h. let e = fine-every h.0 h.1 in λ i. or_else (h.0 i) (e i),
  )

  past : build_refusal ps t ≡ none → or_else (build_refusal ps t) (table_fault ps t) ≡ table_fault ps t
  past built i = or_else (built i) (table_fault ps t)

  -- past 1 to 6, a refusal is told exactly where it is that of the lowest row at fault
  pub lowest-fault : build_refusal ps t ≡ none → (f : Refusal) → (check_refusal ps t ≡ some f) ↔ LowestFault ps t f
  unfolding check_refusal
  lowest-fault built f = (
    λ e. found-lowest built f (sym (past built) ∙ e),
    λ h. past built ∙ lowest-found built f h,
  )

  -- 1 to 6 come first, as in a build
  pub refused-as-built : (f : Refusal) → build_refusal ps t ≡ some f → check_refusal ps t ≡ some f
  unfolding check_refusal
  refused-as-built f e i = or_else (e i) (table_fault ps t)
