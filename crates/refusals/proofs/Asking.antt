-- Where AGREE's asking is refused: at a point off the sheet, or in the NEAR walk of one point. Asking one point more is
-- asking the others and then that one, so all is induction on the number of points; what is asked before the points of
-- a line is a parameter, so that A's points and B's are one case.
use mathlib.Core.Path.{◌≡◌, refl, sym, ◌∙◌, ap, subst}
use mathlib.Core.Bool.{Bool, true, false, cond}
use mathlib.Core.List.{List}
use mathlib.Core.Logic.{◌⊎◌, inl, inr, ⊎_elim}
use mathlib.Core.Option.{none}
use Prim.Native.Nat.{ℕ, zero, suc, ◌+◌, ◌<◌}
use native.Mathlib.Decide.{ℕ_discrete}
use native.Mathlib.Omega.{arith}
use lib.IntN.{ℤ}
use Rattle.rules.specs.declared.Line.{Line}
use Rattle.rules.specs.declared.Line.TheVariants.{NoLine, LineA, LineB}
use Rattle.rules.specs.declared.Refusal.{Refusal}
use Rattle.rules.specs.declared.Tally.{Tally}
use Rattle.rules.specs.Sheet.{point, points_of, segments_of, on_sheet}
use Rattle.rules.specs.declared.Reply.{Reply}
use Rattle.rules.specs.Reply.{first_refusal, or_refused, refuses}
use Rattle.rules.specs.Walk.{Walked, ended, over, spent, refused, fresh}
use Rattle.rules.specs.Questions.{root, Nothing, near_walk, Asked, all_near, not_near, unasked, faulted, on_near, ask_all}
use Rattle.rules.specs.Questions.{on_all_near, agree_walk, agree_checks, agreed}
use Rattle.visits.specs.Reached.{at-root}
use Rattle.visits.proofs.Tests.{never}
use Rattle.refusals.specs.Named.{NearBad, OnUpTo, FirstOff, off_refusal, AsksAt, ComesTo, OtherBad, AgreeBad}
use Rattle.refusals.specs.Named.{PointOff}
use Rattle.refusals.proofs.Sees.{first-bad, bad-refused}
use Rattle.refusals.proofs.Questions.{near-visits, bad-late}

-- ---------------- the points of one line

module _ (l : Line) (ps : List ℤ) (m : Line) (qs t : List ℤ) (D : ℤ) where
  abbrev ask : ℕ → ℕ → Tally → Asked
  ask = ask_all l ps m qs t D

  -- one point, by whether it is on the sheet and what its walk comes to, and then the rest
  abbrev on_point : ℕ → Tally → Bool → Walked Nothing → (Tally → Asked) → Asked
  on_point i y b w go = cond b (on_near l i w go) (faulted (off_refusal l i y))

  on-more : (b : Bool) (w : Walked Nothing) (i : ℕ) (y : Tally) (go go' rest : Tally → Asked)
      → ((v : Tally) → go v ≡ on_all_near (go' v) rest) → on_point i y b w go ≡ on_all_near (on_point i y b w go') rest
  on-more true (ended v) i y go go' rest h = h v
  on-more true (over s v) i y go go' rest h = refl
  on-more true spent i y go go' rest h = refl
  on-more true (refused r) i y go go' rest h = refl
  on-more false w i y go go' rest h = refl

  -- k + 1 points are k points and then, where these are near, one more
  ask-more : (i k j : ℕ) (y : Tally) → i + k ≡ j → ask i (suc k) y ≡ on_all_near (ask i k y) (ask j 1)
  unfolding ask_all
  ask-more i zero j y e = ap (λ (n : ℕ). ask n 1 y) (omega arith)
  ask-more i (suc k) j y e =
      on-more (on_sheet (point ps i)) (near_walk m qs t (point ps i) D y) i y _ _ (ask j 1)
      (λ v. ask-more (suc i) k j v (omega arith))

  -- point i is the cause of a refusal: it is off the sheet, or its walk from tally y on is refused
  abbrev pub Cause : ℕ → Tally → Refusal → Type 0
  Cause i y r =
      ((on_sheet (point ps i) ≡ false) × (r ≡ off_refusal l i y))
      ⊎ ((on_sheet (point ps i) ≡ true) × (near_walk m qs t (point ps i) D y ≡ refused r))

  -- what asking the first k points tells: all are on the sheet, or one that it comes to is the cause
  abbrev AskTells : ℕ → Tally → Asked → Type 0
  AskTells k y (all_near v) = OnUpTo ps k
  AskTells k y (not_near n j v) = Unit {0}
  AskTells k y unasked = Unit {0}
  AskTells k y (faulted r) = (i : ℕ) × (v : Tally) × (i < k) × (ask 0 i y ≡ all_near v) × Cause i v r

  -- one point after them
  one-tells : (k : ℕ) (y v : Tally) → ask 0 k y ≡ all_near v → OnUpTo ps k → (b : Bool) (w : Walked Nothing)
      → on_sheet (point ps k) ≡ b → near_walk m qs t (point ps k) D v ≡ w → AskTells (suc k) y (on_point k v b w all_near)
  one-tells k y v e h true (ended x) p q = λ j l.
      elim (ℕ_discrete k j) [ yes c ↦ ap (λ (n : ℕ). on_sheet (point ps n)) (sym c) ∙ p | no c ↦ h j (omega arith) ]
  one-tells k y v e h true (over s x) p q = tt
  one-tells k y v e h true spent p q = tt
  one-tells k y v e h true (refused r) p q = (k, v, omega arith, e, inr (p, q))
  one-tells k y v e h false w p q = (k, v, omega arith, e, inl (p, refl))

  ask-tells : (k : ℕ) (y : Tally) → AskTells k y (ask 0 k y)
  unfolding ask_all
  ask-tells zero y = λ j b. absurd (omega arith)
  ask-tells (suc k) y =
      subst (AskTells (suc k) y) (sym (ask-more 0 k k y (omega arith))) (go (ask 0 k y) refl (ask-tells k y))
    where
      go : (a : Asked) → ask 0 k y ≡ a → AskTells k y a → AskTells (suc k) y (on_all_near a (ask k 1))
      go (all_near v) e h = one-tells k y v e h _ _ refl refl
      go (not_near n j v) e h = tt
      go unasked e h = tt
      go (faulted r) e h = (h.0, h.1, omega (arith, h.2), h.3, h.4)

  -- and back: where the asking comes to a point that is the cause, it is refused
  cause-stops : (i : ℕ) (y : Tally) (r : Refusal) → Cause i y r → ask i 1 y ≡ faulted r
  unfolding ask_all
  cause-stops i y r (inl c) =
      ap (λ (b : Bool). on_point i y b (near_walk m qs t (point ps i) D y) all_near) c.0 ∙ ap faulted (sym c.1)
  cause-stops i y r (inr c) = λ d. on_point i y (c.0 d) (c.1 d) all_near

  cause-fault : (i k : ℕ) (y v : Tally) (r : Refusal) → i < k → ask 0 i y ≡ all_near v → Cause i v r
      → ask 0 k y ≡ faulted r
  cause-fault i zero y v r l e c = absurd (omega arith)
  cause-fault i (suc k) y v r l e c =
      ask-more 0 k k y (omega arith)
      ∙ elim (ℕ_discrete i k) [
        | yes q ↦ ap (λ (a : Asked). on_all_near a (ask k 1)) (subst (λ (n : ℕ). ask 0 n y ≡ all_near v) q e)
            ∙ cause-stops k v r (subst (λ (n : ℕ). Cause n v r) q c)
        | no q ↦ ap (λ (a : Asked). on_all_near a (ask k 1)) (cause-fault i k y v r (omega arith) e c)
      ]

  -- ---------------- after what is asked before them

  -- the asking comes to point i with tally y
  abbrev Comes : Asked → ℕ → Tally → Type 0
  Comes before i y = on_all_near before (ask 0 i) ≡ all_near y

  comes-read : (before : Asked) (i : ℕ) (y : Tally) → Comes before i y
      → (v : Tally) × (before ≡ all_near v) × (ask 0 i v ≡ all_near y)
  comes-read (all_near v) i y e = (v, refl, e)
  comes-read (not_near n j v) i y e = never (cc)
  comes-read unasked i y e = never (cc)
  comes-read (faulted r) i y e = never (cc)

  comes-on : (before : Asked) (i : ℕ) (y : Tally) → Comes before i y → OnUpTo ps i
  comes-on before i y e = let c = comes-read before i y e in subst (AskTells i c.0) c.2 (ask-tells i c.0)

  comes-fault : (before : Asked) (k : ℕ) (r : Refusal) → on_all_near before (ask 0 k) ≡ faulted r
      → (before ≡ faulted r) ⊎ ((i : ℕ) × (y : Tally) × (i < k) × Comes before i y × Cause i y r)
  comes-fault (all_near v) k r e = inr (subst (AskTells k v) e (ask-tells k v))
  comes-fault (not_near n j v) k r e = never (cc)
  comes-fault unasked k r e = never (cc)
  comes-fault (faulted s) k r e = inl e

  fault-comes : (before : Asked) (i k : ℕ) (y : Tally) (r : Refusal) → i < k → Comes before i y → Cause i y r
      → on_all_near before (ask 0 k) ≡ faulted r
  fault-comes before i k y r l e c =
      let b = comes-read before i y e in
      ap (λ (a : Asked). on_all_near a (ask 0 k)) b.1 ∙ cause-fault i k b.0 y r l b.2 c

  -- ---------------- a walk that is refused, and the bad row of the other line

  module _ (i : ℕ) (y : Tally) where
    refused-bad : (r : Refusal) → near_walk m qs t (point ps i) D y ≡ refused r
        → NearBad m qs t (point ps i) D y (refuses r) × (r.number ≡ 10)
    refused-bad = first-bad (near-visits m qs t (point ps i) D) (segments_of qs) (root qs) tt y at-root

    bad-cause : (q : Reply) → (on_sheet (point ps i) ≡ true) × NearBad m qs t (point ps i) D y q
        → (r : Refusal) × Cause i y r × (r.number ≡ 10)
    bad-cause q h =
        let w = bad-refused (near-visits m qs t (point ps i) D) (segments_of qs) (root qs) tt y at-root q h.1 in
        (w.0, inr (h.0, w.1), (refused-bad w.0 w.1).1)

-- ---------------- both lines

-- what does not reply 0 was refused
agreed-else : (a : ℕ) (w : Asked) → ((agreed a w).number ≡ 0) ⊎ ((r : Refusal) × (w ≡ faulted r))
agreed-else a (all_near y) = inl refl
agreed-else a (not_near l i y) = inl refl
agreed-else a unasked = inl refl
agreed-else a (faulted r) = inr (r, refl)

module _ (ps t qs t' : List ℤ) (D : ℤ) (a : ℕ) where
  -- what is asked before B's points
  abbrev asked-A : Asked
  asked-A = ask_all LineA ps LineB qs t' D 0 (points_of ps) (fresh a)

  abbrev pub AgreeCause : Refusal → Line → ℕ → Tally → Type 0
  AgreeCause r NoLine i y = ⊥
  AgreeCause r LineA i y = Cause LineA ps LineB qs t' D i y r
  AgreeCause r LineB i y = Cause LineB qs LineA ps t D i y r

  abbrev ComesAt : (Line → ℕ → Tally → Type 0) → Type 0
  ComesAt P = ComesTo ps t qs t' D a P

  pub comes-map : {P Q : Line → ℕ → Tally → Type 0} (c : ComesAt P) → Q c.line c.index c.tally → ComesAt Q
  comes-map c h = record { line = c.line; index = c.index; tally = c.tally; comes = c.comes; has = h }

  -- an asking is refused exactly where it comes to a point that is the cause
  agree-fault : (r : Refusal) → agree_walk ps t qs t' D (fresh a) ≡ faulted r → ComesAt (AgreeCause r)
  unfolding agree_walk
  agree-fault r e =
      ⊎_elim
      (λ q.
      ⊎_elim (λ n. never (cc))
      (λ f. record { line = LineA; index = f.0; tally = f.1; comes = (f.2, f.3); has = f.4 })
      (comes-fault LineA ps LineB qs t' D (all_near (fresh a)) (points_of ps) r q))
      (λ f. record { line = LineB; index = f.0; tally = f.1; comes = (f.2, f.3); has = f.4 })
      (comes-fault LineB qs LineA ps t D asked-A (points_of qs) r e)

  pub fault-agree : {r : Refusal} → ComesAt (AgreeCause r) → agree_walk ps t qs t' D (fresh a) ≡ faulted r
  unfolding agree_walk
  fault-agree {r} f = go f.line f.index f.tally f.comes f.has
    where
      go : (l : Line) (i : ℕ) (y : Tally) → AsksAt ps t qs t' D a l i y → AgreeCause r l i y
          → on_all_near asked-A (ask_all LineB qs LineA ps t D 0 (points_of qs)) ≡ faulted r
      go NoLine i y h c = absurd h
      go LineA i y h c =
          ap (λ (w : Asked). on_all_near w (ask_all LineB qs LineA ps t D 0 (points_of qs)))
          (fault-comes LineA ps LineB qs t' D (all_near (fresh a)) i (points_of ps) y r h.0 h.1 c)
      go LineB i y h c = fault-comes LineB qs LineA ps t D asked-A i (points_of qs) y r h.0 h.1 c

  -- a first point off the sheet is a cause
  pub off-cause : (l : Line) (i : ℕ) (y : Tally) → FirstOff ps qs l i → AgreeCause (off_refusal l i y) l i y
  off-cause NoLine i y o = absurd o
  off-cause LineA i y o = inl (o.1, refl)
  off-cause LineB i y o = inl (o.2, refl)

  -- an early refusal has met no bad row
  pub other-late : (r : Reply) (l : Line) (i : ℕ) (y : Tally)
      → OtherBad ps t qs t' D (or_refused (first_refusal (agree_checks ps t qs t' D)) r) l i y
      → first_refusal (agree_checks ps t qs t' D) ≡ none
  other-late r NoLine i y h = absurd h
  other-late r LineA i y h = bad-late (agree_checks ps t qs t' D) r _ y h.1
  other-late r LineB i y h = bad-late (agree_checks ps t qs t' D) r _ y h.1

  -- a bad row of the other line is a cause
  pub other-cause : (q : Reply) (l : Line) (i : ℕ) (y : Tally) → OtherBad ps t qs t' D q l i y
      → (r : Refusal) × AgreeCause r l i y × (r.number ≡ 10)
  other-cause q NoLine i y h = absurd h
  other-cause q LineA i y h = bad-cause LineA ps LineB qs t' D i y q h
  other-cause q LineB i y h = bad-cause LineB qs LineA ps t D i y q h

  -- a cause is a first point off the sheet, with 8, or a bad row of the other line, with 10
  cause-read : (r : Refusal) (l : Line) (i : ℕ) (y : Tally) → AsksAt ps t qs t' D a l i y → AgreeCause r l i y
      → (FirstOff ps qs l i × (r.number ≡ 8)) ⊎ (OtherBad ps t qs t' D (refuses r) l i y × (r.number ≡ 10))
  cause-read r NoLine i y h c = absurd c
  cause-read r LineA i y h (inl c) =
      let some = comes-on LineA ps LineB qs t' D (all_near (fresh a)) i y h.1 in
      inl ((some, c.0), ap (λ (x : Refusal). x.number) c.1)
  cause-read r LineB i y h (inl c) =
      let n = comes-read LineB qs LineA ps t D asked-A i y h.1 in
      let all = comes-on LineA ps LineB qs t' D (all_near (fresh a)) (points_of ps) n.0 n.1 in
      inl ((all, comes-on LineB qs LineA ps t D asked-A i y h.1, c.0), ap (λ (x : Refusal). x.number) c.1)
  cause-read r LineA i y h (inr c) =
      let b = refused-bad LineA ps LineB qs t' D i y r c.1 in inr ((c.0, b.0), b.1)
  cause-read r LineB i y h (inr c) =
      let b = refused-bad LineB qs LineA ps t D i y r c.1 in inr ((c.0, b.0), b.1)

  -- after the checks a number is 8, at a point off the sheet, or 10, at a bad row
  abbrev Late : ℕ → Reply → Type 0
  Late k r = (PointOff ps t qs t' D a × (k ≡ 8)) ⊎ (AgreeBad ps t qs t' D a r × (k ≡ 10))

  pub agree-late : first_refusal (agree_checks ps t qs t' D) ≡ none → (k : ℕ) → 0 < k
      → (agreed a (agree_walk ps t qs t' D (fresh a))).number ≡ k
      → Late k (agreed a (agree_walk ps t qs t' D (fresh a)))
  agree-late e k p h =
      ⊎_elim (λ z. absurd (omega arith)) (λ w.
      let f = agree-fault w.0 w.1 in
      let n : k ≡ w.0.number = sym h ∙ ap (λ (x : Asked). (agreed a x).number) w.1 in
      subst (λ (x : Asked). Late k (agreed a x)) (sym w.1)
      (⊎_elim (λ o. inl (record { unrefused = e; at = comes-map f o.0 }, n ∙ o.1))
      (λ b. inr (comes-map f b.0, n ∙ b.1))
      (cause-read w.0 f.line f.index f.tally f.comes f.has)))
      (agreed-else a (agree_walk ps t qs t' D (fresh a)))
