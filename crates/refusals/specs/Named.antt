-- What a 10 names: the first row that is visited and bad for the range handed down to it. What AGREE's 8 names: the
-- first point that is asked and off the sheet.
use Rattle.std.specs.Prelude.{◌≡◌, true, false, List, [], ◌∷◌, ◌++◌, ◌⊎◌, ◌≢◌, ℕ, ◌+◌, ◌<◌, ℤ, length}
use Rattle.std.proofs.Math.Option.{none}
use Rattle.rules.specs.declared.Line.{Line}
use Rattle.rules.specs.declared.Line.TheVariants.{NoLine, LineA, LineB}
use Rattle.rules.specs.declared.Node.{Node}
use Rattle.rules.specs.declared.Pair.{Pair}
use Rattle.rules.specs.declared.Point.{Point}
use Rattle.rules.specs.declared.Refusal.{Refusal}
use Rattle.rules.specs.declared.Tally.{Tally}
use Rattle.rules.specs.Sheet.{point, points_of, on_sheet}
use Rattle.rules.specs.declared.Word.TheVariants.{UNDECIDED}
use Rattle.rules.specs.declared.Reply.{Reply}
use Rattle.rules.specs.Reply.{Check, first_refusal}
use Rattle.rules.specs.Walk.{fresh}
use Rattle.rules.specs.Questions.{all_near, ask_all, on_all_near, agree_checks}
use Rattle.visits.specs.Nodes.{RowGood}
use Rattle.refusals.specs.Trace.{near_visited, meet_visited, in_visited, Each}

-- ---- of the nodes that are visited from tally y on, the last one is bad, at the reply's line and place, and each
-- earlier one is good; the visits are those made
pub record FirstBad {N : Type 0} (Good : N → Type 0) (Bad : N → Line → ℕ → Type 0) (nodes : List N) (y : Tally)
    (r : Reply) : Type 0 where
  pub before : List N
  pub last : N
  pub parts : nodes ≡ before ++ last ∷ []
  pub earlier : Each Good before
  pub bad : Bad last r.line r.place
  pub counted : r.visits ≡ y.visits + length nodes

-- a node's row is bad, and named by line and place
abbrev pub RowBad : Line → List ℤ → List ℤ → Node → Line → ℕ → Type 0
RowBad l ps t n line place = (¬ RowGood ps t n) × (line ≡ l) × (place ≡ n.row)

-- of a pair, A's row is read first
abbrev pub PairGood : List ℤ → List ℤ → List ℤ → List ℤ → Pair → Type 0
PairGood ps t qs t' n = RowGood ps t n.a × RowGood qs t' n.b

abbrev pub PairBad : List ℤ → List ℤ → List ℤ → List ℤ → Pair → Line → ℕ → Type 0
PairBad ps t qs t' n line place =
    RowBad LineA ps t n.a line place ⊎ (RowGood ps t n.a × RowBad LineB qs t' n.b line place)

-- of NEAR against line l from tally y on, of IN, and of MEET
abbrev pub NearBad : Line → List ℤ → List ℤ → Point → ℤ → Tally → Reply → Type 0
NearBad l ps t z D y r = FirstBad (RowGood ps t) (RowBad l ps t) (near_visited l ps t z D y) y r

abbrev pub InBad : List ℤ → List ℤ → Point → Tally → Reply → Type 0
InBad ps t z y r = FirstBad (RowGood ps t) (RowBad LineA ps t) (in_visited ps t z y) y r

abbrev pub MeetBad : List ℤ → List ℤ → List ℤ → List ℤ → Tally → Reply → Type 0
MeetBad ps t qs t' y r = FirstBad (PairGood ps t qs t') (PairBad ps t qs t') (meet_visited ps t qs t' y) y r

-- ---- a question that no check refuses, and that is decided, tells as many visits as nodes are visited
abbrev pub Counted : {N : Type 0} → List Check → Reply → List N → Type 0
Counted checks r nodes = first_refusal checks ≡ none → r.word ≢ UNDECIDED → r.visits ≡ length nodes

-- ---- AGREE: the point that is asked
-- the points 0 to i - 1 of a line are on the sheet
abbrev pub OnUpTo : List ℤ → ℕ → Type 0
OnUpTo ps i = (j : ℕ) → j < i → on_sheet (point ps j) ≡ true

-- point i of a line is the first one off the sheet; A's points come before B's
abbrev pub FirstOff : List ℤ → List ℤ → Line → ℕ → Type 0
FirstOff ps qs NoLine i = ⊥
FirstOff ps qs LineA i = OnUpTo ps i × (on_sheet (point ps i) ≡ false)
FirstOff ps qs LineB i = OnUpTo ps (points_of ps) × OnUpTo qs i × (on_sheet (point qs i) ≡ false)

-- 8 at that point, with the visits made
abbrev pub off_refusal : Line → ℕ → Tally → Refusal
off_refusal l i y = record { number = 8; line = l; place = i; visits = y.visits }

module _ (ps t qs t' : List ℤ) (D : ℤ) where
  -- the asking comes to point i of a line with tally y: the line has that point, and each point asked before is near
  abbrev pub AsksAt : ℕ → Line → ℕ → Tally → Type 0
  AsksAt allowance NoLine i y = ⊥
  AsksAt allowance LineA i y = (i < points_of ps) × (ask_all LineA ps LineB qs t' D 0 i (fresh allowance) ≡ all_near y)
  AsksAt allowance LineB i y =
      (i < points_of qs)
      × (on_all_near (ask_all LineA ps LineB qs t' D 0 (points_of ps) (fresh allowance))
      (λ v. ask_all LineB qs LineA ps t D 0 i v) ≡ all_near y)

  -- the asking comes to a point that has P, of a line, with an index and the tally that the points before it left
  pub record ComesTo (allowance : ℕ) (P : Line → ℕ → Tally → Type 0) : Type 0 where
    pub line : Line
    pub index : ℕ
    pub tally : Tally
    pub comes : AsksAt allowance line index tally
    pub has : P line index tally

  -- a 10 comes from the NEAR walk of that point, which is on the sheet, against the other line
  abbrev pub OtherBad : Reply → Line → ℕ → Tally → Type 0
  OtherBad r NoLine i y = ⊥
  OtherBad r LineA i y = (on_sheet (point ps i) ≡ true) × NearBad LineB qs t' (point ps i) D y r
  OtherBad r LineB i y = (on_sheet (point qs i) ≡ true) × NearBad LineA ps t (point qs i) D y r

  abbrev pub AgreeBad : ℕ → Reply → Type 0
  AgreeBad allowance r = ComesTo allowance (OtherBad r)

  -- no check refuses, and the asking comes to a point off the sheet, the first
  pub record PointOff (allowance : ℕ) : Type 0 where
    pub unrefused : first_refusal (agree_checks ps t qs t' D) ≡ none
    pub at : ComesTo allowance (λ l i y. FirstOff ps qs l i)
