-- What a record is answered, asked as a question over the stores of the two lines.
use Rattle.std.specs.Prelude.{◌≡◌, List, ℕ, ℤ}
use Rattle.rules.specs.declared.Line.TheVariants.{NoLine}
use Rattle.rules.specs.declared.Reply.{Reply}
use Rattle.rules.specs.Questions.{near_reply, in_reply, meet_reply, agree_reply}
use Rattle.words.specs.declared.Record.{Record}
use Rattle.words.specs.declared.Record.TheVariants.{Start, Pt, Near, In, Meet, Agree, NotUnderstood}
use Rattle.desk.specs.Desk.{Store, refused_at}
use Rattle.ready.specs.declared.Needed.{Needed}
use Rattle.ready.specs.declared.Needed.TheVariants.{NoTable, TableA, BothTables}
use Rattle.ready.specs.declared.TablesBuilt.{TablesBuilt}
use Rattle.ready.specs.Left.{first_after, second_after, built_after}
use Rattle.ready.specs.Readied.{with_tables}
use Rattle.answers.specs.declared.Replied.{Replied}

-- NEAR and IN are asked of A, MEET and AGREE of both lines
abbrev pub needed_by : Record → Needed
needed_by (Near x y D allowance) = TableA
needed_by (In x y allowance) = TableA
needed_by (Meet allowance) = BothTables
needed_by (Agree D allowance) = BothTables
needed_by (Start l) = NoTable
needed_by (Pt x y) = NoTable
needed_by NotUnderstood = NoTable

-- the reply, of the points and the tables of two lines; what is no question is refusal 12
abbrev pub answer_to : Record → ℕ → List ℤ → List ℤ → List ℤ → List ℤ → Reply
answer_to (Near x y D allowance) place ps t qs t' = near_reply ps t (record { x = x; y = y }) D allowance
answer_to (In x y allowance) place ps t qs t' = in_reply ps t (record { x = x; y = y }) allowance
answer_to (Meet allowance) place ps t qs t' = meet_reply ps t qs t' allowance
answer_to (Agree D allowance) place ps t qs t' = agree_reply ps t qs t' D allowance
answer_to (Start l) place ps t qs t' = refused_at 12 NoLine place
answer_to (Pt x y) place ps t qs t' = refused_at 12 NoLine place
answer_to NotUnderstood place ps t qs t' = refused_at 12 NoLine place

-- .. of two stores, whose tables are readied
abbrev pub reply_to : Record → ℕ → Store → Store → Reply
reply_to q place a b = with_tables (needed_by q) a b place (λ t t'. answer_to q place a.points t b.points t')

-- ---- what is promised: the reply, what is left in the two tables, and which of them are built then
pub record Replies (q : Record) (place : ℕ) (a b : Store) (was : TablesBuilt) (table_a table_b : List ℤ) (r : Replied)
    (left_a left_b : List ℤ) : Type 0 where
  pub reply : r.reply ≡ reply_to q place a b
  pub first : left_a ≡ first_after (needed_by q) a table_a
  pub second : left_b ≡ second_after (needed_by q) a b table_a table_b
  pub built : r.built ≡ built_after (needed_by q) was a b table_a table_b
