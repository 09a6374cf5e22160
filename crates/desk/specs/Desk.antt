-- What the question program keeps from text line to text line, and what it makes of each.
use Rattle.std.specs.Prelude.{Bool, true, false, cond, Option, Some, None, List, [], ◌∷◌, ◌++◌, ℕ, ◌+◌, ltb, ℤ}
use Rattle.std.proofs.Math.Option as math
use Rattle.rules.specs.declared.Line.{Line}
use Rattle.rules.specs.declared.Line.TheVariants.{NoLine, LineA, LineB}
use Rattle.rules.specs.declared.Refusal.{Refusal}
use Rattle.rules.specs.Sheet.{points_of}
use Rattle.rules.specs.declared.Reply.{Reply}
use Rattle.rules.specs.Reply.{refuses}
use Rattle.rules.specs.Questions.{near_reply, meet_reply, in_reply, agree_reply}
use Rattle.rules.specs.Build.{build_refusal, table_of}
use Rattle.words.specs.declared.Record.{Record}
use Rattle.words.specs.declared.Record.TheVariants.{Start, Pt, Near, In, Meet, Agree, NotUnderstood}
use Rattle.words.specs.Records.{record_of}
use Rattle.print.specs.Printed.{printed}

-- ---- a line's points as they were read, and whether a point past the 257th came
pub record Store : Type 0 where
  pub points : List ℤ
  pub over : Bool

abbrev pub empty : Store
empty = record { points = []; over = false }

-- a line's store has room for 257 points
abbrev pub room : ℕ
room = 257

-- ---- where points go, the two lines, the text lines read and the lines printed
pub record Desk : Type 0 where
  pub target : Line
  pub a : Store
  pub b : Store
  pub text_lines : ℕ
  pub printed_lines : ℕ

abbrev pub opened : Desk
opened = record { target = NoLine; a = empty; b = empty; text_lines = 0; printed_lines = 0 }

abbrev pub store_of : Desk → Line → Store
store_of d NoLine = empty
store_of d LineA = d.a
store_of d LineB = d.b

abbrev pub put_store : Desk → Line → Store → Desk
put_store d NoLine s = d
put_store d LineA s =
    record { target = d.target; a = s; b = d.b; text_lines = d.text_lines; printed_lines = d.printed_lines }
put_store d LineB s =
    record { target = d.target; a = d.a; b = s; text_lines = d.text_lines; printed_lines = d.printed_lines }

abbrev pub aim_at : Desk → Line → Desk
aim_at d l = record { target = l; a = d.a; b = d.b; text_lines = d.text_lines; printed_lines = d.printed_lines }

abbrev pub count_text : Desk → Desk
count_text d =
    record { target = d.target; a = d.a; b = d.b; text_lines = d.text_lines + 1; printed_lines = d.printed_lines }

abbrev pub count_printed : Desk → Desk
count_printed d =
    record { target = d.target; a = d.a; b = d.b; text_lines = d.text_lines; printed_lines = d.printed_lines + 1 }

-- ---- refusals of the program: 12 has no line, 13 the line above 257 points; the place is the text line
abbrev pub refused_at : ℕ → Line → ℕ → Reply
refused_at number l place = refuses (record { number = number; line = l; place = place; visits = 0 })

-- ---- each question builds A, then B if needed; a line under 13 is refused in place of its build
abbrev pub on_build : Line → math.Option Refusal → Reply → Reply
on_build l math.none r = r
on_build l (math.some f) r = refuses (record { number = f.number; line = l; place = f.place; visits = f.visits })

unfoldable pub with_table : Line → Store → ℕ → (List ℤ → Reply) → Reply
with_table l s place go =
    cond s.over (refused_at 13 l place)
    (on_build l (build_refusal s.points (table_of s.points)) (go (table_of s.points)))

abbrev pub of_a : Desk → (List ℤ → Reply) → Reply
of_a d go = with_table LineA d.a d.text_lines go

abbrev pub of_both : Desk → (List ℤ → List ℤ → Reply) → Reply
of_both d go = of_a d (λ t. with_table LineB d.b d.text_lines (λ t'. go t t'))

-- ---- what a text line comes to: the desk, and the reply that is printed, if any
pub record Taken : Type 0 where
  pub desk : Desk
  pub said : Option Reply

abbrev pub quiet : Desk → Taken
quiet d = record { desk = d; said = None }

abbrev pub saying : Desk → Reply → Taken
saying d r = record { desk = count_printed d; said = Some r }

-- each point past the 257th is refusal 13 and isn't stored; points before any LINE are refusal 12
abbrev pub add_point : Desk → Line → ℤ → ℤ → Taken
add_point d l x y =
    cond (ltb (points_of (store_of d l).points) room)
    (quiet (put_store d l (record { points = (store_of d l).points ++ x ∷ y ∷ []; over = (store_of d l).over })))
    (saying (put_store d l (record { points = (store_of d l).points; over = true })) (refused_at 13 l d.text_lines))

abbrev pub take_point : Desk → Line → ℤ → ℤ → Taken
take_point d NoLine x y = saying d (refused_at 12 NoLine d.text_lines)
take_point d LineA x y = add_point d LineA x y
take_point d LineB x y = add_point d LineB x y

abbrev pub take_record : Desk → Record → Taken
take_record d (Start l) = quiet (aim_at (put_store d l empty) l)
take_record d (Pt x y) = take_point d d.target x y
take_record d (Near x y D allowance) =
    saying d (of_a d (λ t. near_reply d.a.points t (record { x = x; y = y }) D allowance))
take_record d (In x y allowance) = saying d (of_a d (λ t. in_reply d.a.points t (record { x = x; y = y }) allowance))
take_record d (Meet allowance) = saying d (of_both d (λ t t'. meet_reply d.a.points t d.b.points t' allowance))
take_record d (Agree D allowance) =
    saying d (of_both d (λ t t'. agree_reply d.a.points t d.b.points t' D allowance))
take_record d NotUnderstood = saying d (refused_at 12 NoLine d.text_lines)

unfoldable pub take_text : Desk → List ℕ → Taken
take_text d text = take_record (count_text d) (record_of text)

-- ---- the bytes that are printed of what is taken: the ordinal is that of the printed line
abbrev pub said_bytes : Option Reply → ℕ → List ℕ
said_bytes None ordinal = []
said_bytes (Some r) ordinal = printed ordinal r

abbrev pub bytes_of : Taken → List ℕ
bytes_of t = said_bytes t.said t.desk.printed_lines
