-- Roots with their boxes apart: one visit dismisses the pair, whatever the strips say, and that is the walk.
use Rattle.std.specs.Prelude.{Option, Some, None}
use mathlib.Core.Path.{◌≡◌, refl, sym, ◌∙◌, ap, subst}
use mathlib.Core.Bool.{Bool, true, false, cond, ◌||◌}
use mathlib.Core.List.{List}
use Prim.Native.Nat.{ℕ, ◌+◌, ◌<◌, ◌≤◌}
use native.Mathlib.Omega.{arith}
use lib.IntN.{ℤ}
use Rattle.rules.specs.declared.Line.TheVariants.{LineA, LineB}
use Rattle.rules.specs.declared.Pair.{Pair}
use Rattle.rules.specs.declared.Tally.{Tally}
use Rattle.rules.specs.Tree.{row_at}
use Rattle.rules.specs.declared.Word.TheVariants.{YES, NO, UNDECIDED}
use Rattle.rules.specs.Reply.{says}
use Rattle.rules.specs.Sheet.{segments_of}
use Rattle.rules.specs.Walk.{next, Visit, Walked, pass, over, on_visit, walk}
use Rattle.rules.specs.Questions.{Nothing, start_of, heading_of, boxes_apart, strip_apart, apart, meet_visit}
use Rattle.rules.specs.Questions.{root, yes_or_no, meet_walk}
use Rattle.visits.specs.Nodes.{RowGood}
use Rattle.visits.proofs.Levels.{none_left, visited}
use Rattle.visits.specs.Fine.{LengthsFine}
use Rattle.row.proofs.Places.{root_stands}
use Rattle.apart.specs.Placed.{BoxOnSheet}
use Rattle.integers.specs.Order.{T_true}
use Rattle.rules.specs.Rows.{good}
use Rattle.rules.specs.declared.Row.{Row}
use Rattle.rules.specs.declared.Reply.{Reply}
use Rattle.ending.specs.Ending.{walked_in, due, bad_row, bad_second}
use Rattle.ending.proofs.Dues.{reads-bad-due, reads-second-due}
use Rattle.meet_visit.specs.declared.Does.{Does}
use Rattle.meet_visit.specs.declared.Does.TheVariants.{Finishes, Passes, Halves}
use Rattle.meet_visit.specs.Pairs.{PairStands, Read, pair_in}
use Rattle.meet_visit.specs.Steps.{compared}
use Rattle.meet_visit.proofs.GoodRows.{pair-told, placed}
use Rattle.meet_visit.proofs.Steps.{kept_visit, both-good, bad-a, bad-b}
use Rattle.meet_walk.specs.Pair.{segments}
use Rattle.meet_walk.specs.Walks.{Opens, WalksOn}
use Rattle.meet_walk.proofs.Halves.{seen}
use Rattle.meet.specs.Roots.{roots}

module _ (ps t qs t' : List ℤ) (n : Pair) where
  -- boxes apart dismiss the pair, whatever the strips say
  pub boxes-dismiss : RowGood ps t n.a → RowGood qs t' n.b
      → boxes_apart (row_at t n.a.row) (row_at t' n.b.row) ≡ true → pass (λ k. k) ≡ meet_visit ps t qs t' n
  unfolding apart
  boxes-dismiss h k e =
      let r = row_at t n.a.row in
      let q = row_at t' n.b.row in
      let strips = strip_apart r (start_of ps n.a) (heading_of ps n.a) q in
      let others = strip_apart q (start_of qs n.b) (heading_of qs n.b) r in
      sym (λ i. cond (e i || strips || others) (pass (λ k. k)) (kept_visit ps r qs q n))
      ∙ both-good ps t qs t' n h k

-- a visit that dismisses the pair that a walk starts from is the walk
pub dismissed : {N : Type 0} (visit : N → Visit Nothing N) (n : N) (y : Tally) (f : ℕ) → 0 < f → pass (λ k. k) ≡ visit n
    → on_visit (next y) (λ v. over tt v) ≡ walk visit f n tt y
dismissed visit n y f h q = by (next y) refl
  where
    by : (m : Option Tally) → next y ≡ m → on_visit m (λ v. over tt v) ≡ walk visit f n tt y
    by (Some v) e = visited visit n tt y f h e q
    by None e = none_left visit n tt y f h e

-- ---------------- the pair of the roots, as its rows tell it, and the levels that are enough for it
abbrev levels : List ℤ → List ℤ → ℕ
levels ps qs = segments_of ps + segments_of qs

abbrev at_roots : List ℤ → List ℤ → Pair
at_roots t t' = pair_in t t' (record { a = 0; b = 0 })

module _ {ps t qs t' : List ℤ} (h : PairStands ps t qs t' (roots ps qs)) where
  told : at_roots t t' ≡ roots ps qs
  told = pair-told h

  pub stands : PairStands ps t qs t' (at_roots t t')
  stands = subst (PairStands ps t qs t') (sym told) h

  some : 0 < levels ps qs
  some = let f = h.of-a.stands.fine.some-points in omega arith

  enough : segments (at_roots t t') ≤ levels ps qs
  enough = subst (λ (n : Pair). segments n ≤ levels ps qs) (sym told) (omega arith)

  abbrev does : Pair → Visit Nothing Pair
  does = meet_visit ps t qs t'

  abbrev walked : Pair → Tally → Walked Nothing
  walked n y = walk does (levels ps qs) n tt y

  -- what the walk from there comes to is answered
  module _ (y : Tally) where
    answered : {w : Walked Nothing} → w ≡ walked (at_roots t t') y
        → yes_or_no y.allowance w ≡ yes_or_no y.allowance (meet_walk ps t qs t' y)
    answered e = ap (yes_or_no y.allowance) (e ∙ ap (λ (n : Pair). walked n y) told)

    -- no visit is left
    pub unvisited : next y ≡ None → says UNDECIDED y.allowance ≡ yes_or_no y.allowance (meet_walk ps t qs t' y)
    unvisited e = answered (none_left does (at_roots t t') tt y (levels ps qs) some e)

    -- .. or one is made, and finishes, passes, or halves a node
    module _ {counted : Tally} (made : next y ≡ Some counted) {d : Does}
        (is : d ≡ compared ps (row_at t 0) qs (row_at t' 0) (at_roots t t')) where
      pub finished : d ≡ Finishes → says YES counted.visits ≡ yes_or_no y.allowance (meet_walk ps t qs t' y)
      finished e =
          answered (visited does (at_roots t t') tt y (levels ps qs) some made ((seen stands is).finishes e))

      pub passed : d ≡ Passes → says NO counted.visits ≡ yes_or_no y.allowance (meet_walk ps t qs t' y)
      passed e = answered (visited does (at_roots t t') tt y (levels ps qs) some made ((seen stands is).passes e))

      pub opened-roots : d ≡ Halves → Opens ps t qs t' (at_roots t t')
      opened-roots e = record { pair-stands = stands; halves = sym is ∙ e }

    pub went-on : {counted : Tally} → next y ≡ Some counted → (ending : ℕ)
        → WalksOn ps t qs t' (at_roots t t') counted ending
        → yes_or_no y.allowance (walked_in tt tt LineA LineB y.allowance ending)
        ≡ yes_or_no y.allowance (meet_walk ps t qs t' y)
    went-on made ending walks = answered (walks y made (levels ps qs) enough)

-- ---------------- the rows of the roots, as they were read and asked
module _ {ps t : List ℤ} (fine : LengthsFine ps t) {r : Row} {g : Bool} (said : g ≡ good ps r 0 (segments_of ps)) where
  pub root-says : r ≡ row_at t 0 → g ≡ good ps (row_at t 0) 0 (segments_of ps)
  root-says e = said ∙ (λ i. good ps (e i) 0 (segments_of ps))

  pub root-box : g ≡ true → BoxOnSheet r
  root-box good-is = placed-box (record {
    table = t;
    stands = root_stands fine;
    row-good = T_true (sym said ∙ good-is);
  })
    where
      placed-box : Read ps r (root ps) → BoxOnSheet r
      placed-box d = (placed d).box-on

module _ {ps t qs t' : List ℤ} (fine : LengthsFine ps t × LengthsFine qs t') (y : Tally) where
  some-level : 0 < levels ps qs
  some-level = let f = fine.0.some-points in omega arith

  abbrev replied : Walked Nothing → Reply
  replied = yes_or_no y.allowance

  abbrev read : ℕ → Reply
  read ending = replied (walked_in tt tt LineA LineB y.allowance ending)

  module _ {a : Bool} (said-a : a ≡ good ps (row_at t 0) 0 (segments_of ps)) where
    -- A's is bad
    pub bad-root-a : a ≡ false → {ending : ℕ} → ending ≡ due (next y) (bad_row + 0)
        → read ending ≡ replied (meet_walk ps t qs t' y)
    bad-root-a bad is =
        ap read is
        ∙ ap replied (reads-bad-due tt tt LineA LineB (meet_visit ps t qs t') (roots ps qs) tt y (levels ps qs)
        some-level 0 (omega arith) (bad-a ps t qs t' (roots ps qs) (sym said-a ∙ bad)))

    module _ (good-a : a ≡ true) {b : Bool} (said-b : b ≡ good qs (row_at t' 0) 0 (segments_of qs)) where
      -- .. or B's
      pub bad-root-b : b ≡ false → {ending : ℕ} → ending ≡ due (next y) (bad_second + 0)
          → read ending ≡ replied (meet_walk ps t qs t' y)
      bad-root-b bad is =
          ap read is
          ∙ ap replied (reads-second-due tt tt LineA LineB (meet_visit ps t qs t') (roots ps qs) tt y (levels ps qs)
          some-level 0 (omega arith)
          (bad-b ps t qs t' (roots ps qs) (T_true (sym said-a ∙ good-a)) (sym said-b ∙ bad)))

      -- .. or both are good, and their boxes are apart
      pub apart-roots : b ≡ true → boxes_apart (row_at t 0) (row_at t' 0) ≡ true
          → replied (on_visit (next y) (λ v. over tt v)) ≡ replied (meet_walk ps t qs t' y)
      apart-roots good-b e =
          ap replied (dismissed (meet_visit ps t qs t') (roots ps qs) y (levels ps qs) some-level
          (boxes-dismiss ps t qs t' (roots ps qs) (T_true (sym said-a ∙ good-a)) (T_true (sym said-b ∙ good-b)) e))
