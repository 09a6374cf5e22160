-- The four questions, of the program: at a desk whose lines build, what it says to a text line is the reply to the
-- question, of the built tables.
use mathlib.Core.Path.{◌≡◌, sym, ◌∙◌, ap}
use mathlib.Core.Bool.{cond}
use mathlib.Core.List.{List, [], ◌∷◌}
use mathlib.Core.Option.{none}
use Prim.Native.Nat.{ℕ}
use native.Mathlib.Omega.{arith}
use lib.IntN.{ℤ}
use lib.Seq.{take_all}
use Rattle.std.specs.Prelude.{Some}
use Rattle.rules.specs.declared.Line.{Line}
use Rattle.rules.specs.declared.Line.TheVariants.{LineA, LineB}
use Rattle.rules.specs.declared.Point.{Point}
use Rattle.allowance.specs.Enough.{point_enough, pair_enough, agree_enough}
use Rattle.rules.specs.declared.Reply.{Reply}
use Rattle.rules.specs.Reply.{first_refusal}
use Rattle.rules.specs.Rows.{distance_check, asked_check, ring_check}
use Rattle.rules.specs.Questions.{near_reply, meet_reply, in_reply, agree_reply}
use Rattle.rules.specs.Build.{build_refusal, table_of, built_table}
use Rattle.words.specs.declared.Record.{Record}
use Rattle.words.specs.declared.Record.TheVariants.{Near, In, Meet, Agree}
use Rattle.desk.specs.Desk.{Store, Desk, count_text, refused_at, on_build, with_table, of_a, of_both, take_record, take_text}
use Rattle.table_truth.specs.Buildable.{row_numbers}
use Rattle.table_truth.proofs.Refusals.{buildable}
use Rattle.table_truth.proofs.Table.{table-length, built-rows, built-length}
use Rattle.demands.specs.Answers.{Answers, near_plain, meet_plain, in_plain, agree_plain}
use Rattle.demands.specs.Program.{Builds, ProgramAnswers}
use Rattle.demands.proofs.Built.{near-built, in-built, meet-built, agree-built}

-- built into a table of its own length, a line's table is all there is
own-table : (ps : List ℤ) → build_refusal ps (table_of ps) ≡ none → built_table ps (table_of ps) ≡ table_of ps
own-table ps e =
    let t = table_of ps in
    let whole = table-length ps (buildable ps t e).lengths.some-points in
    sym (take_all (row_numbers ps) (built_table ps t) (omega (arith, built-length ps t))) ∙ built-rows ps t e

-- the table that a store builds
abbrev table_in : Store → List ℤ
table_in s = built_table s.points (table_of s.points)

-- of a store that builds the question is asked, with that table
asked-with : (l : Line) (s : Store) (place : ℕ) (go : List ℤ → Reply) → Builds s
    → with_table l s place go ≡ go (table_in s)
unfolding with_table
asked-with l s place go b =
    (λ i. cond (b.kept i) (refused_at 13 l place) (on_build l (b.unrefused i) (go (table_of s.points))))
    ∙ ap go (sym (own-table s.points b.unrefused))

module _ (d : Desk) where
  -- the points of A and of B
  abbrev ps_a : List ℤ
  ps_a = d.a.points

  abbrev ps_b : List ℤ
  ps_b = d.b.points

  -- a reply that answers, and is what the program says, is the program's answer
  program-answers : (asks : ℕ → Record) {reply plain : ℕ → Reply} {enough : ℕ} → Answers reply plain enough
      → ((allowance : ℕ) → (take_record (count_text d) (asks allowance)).said ≡ Some (reply allowance))
      → ProgramAnswers d asks plain enough
  unfolding take_text
  program-answers asks w said = record {
    needs = w.needs;
    bounded = w.bounded;
    given = λ text a e l. rw e (said a ∙ ap Some (w.given a l));
    undecided = λ text a e l. rw e (said a ∙ ap Some (w.undecided a l));
  }

  module _ (a-builds : Builds d.a) where
    of-A : (go : List ℤ → Reply) → of_a (count_text d) go ≡ go (table_in d.a)
    of-A go = asked-with LineA d.a (count_text d).text_lines go a-builds

    -- NEAR, of the program
    pub near-program : (z : Point) (D : ℤ) → first_refusal (distance_check D ∷ asked_check z ∷ []) ≡ none
        → ProgramAnswers d (Near z.x z.y D) (near_plain ps_a z D) (point_enough ps_a)
    near-program z D e =
        program-answers (Near z.x z.y D) (near-built ps_a (table_of ps_a) a-builds.unrefused z D e)
        (λ a. ap Some (of-A (λ t. near_reply ps_a t z D a)))

    -- IN, of the program
    pub in-program : (z : Point) → first_refusal (asked_check z ∷ ring_check LineA ps_a ∷ []) ≡ none
        → ProgramAnswers d (In z.x z.y) (in_plain ps_a z) (point_enough ps_a)
    in-program z e =
        program-answers (In z.x z.y) (in-built ps_a (table_of ps_a) a-builds.unrefused z e)
        (λ a. ap Some (of-A (λ t. in_reply ps_a t z a)))

    module _ (b-builds : Builds d.b) where
      of-both : (go : List ℤ → List ℤ → Reply) → of_both (count_text d) go ≡ go (table_in d.a) (table_in d.b)
      of-both go =
          of-A (λ t. with_table LineB d.b (count_text d).text_lines (go t))
          ∙ asked-with LineB d.b (count_text d).text_lines (go (table_in d.a)) b-builds

      -- MEET, of the program
      pub meet-program : ProgramAnswers d Meet (meet_plain ps_a ps_b) (pair_enough ps_a ps_b)
      meet-program =
          program-answers Meet
          (meet-built ps_a (table_of ps_a) a-builds.unrefused ps_b (table_of ps_b) b-builds.unrefused)
          (λ a. ap Some (of-both (λ t t'. meet_reply ps_a t ps_b t' a)))

      -- AGREE, of the program
      pub agree-program : (D : ℤ) → first_refusal (distance_check D ∷ []) ≡ none
          → ProgramAnswers d (Agree D) (agree_plain ps_a ps_b D) (agree_enough ps_a ps_b)
      agree-program D e =
          program-answers (Agree D)
          (agree-built ps_a (table_of ps_a) a-builds.unrefused ps_b (table_of ps_b) b-builds.unrefused D e)
          (λ a. ap Some (of-both (λ t t'. agree_reply ps_a t ps_b t' D a)))
