-- The codes of words and lines, and a reply in numbers. A table that is built, or accepted, is the word 0.
use Rattle.std.proofs.Math.Option.{Option, none, some}
use Rattle.std.specs.Prelude.{ℕ}
use Rattle.rules.specs.declared.Line.{Line}
use Rattle.rules.specs.declared.Line.TheVariants.{NoLine, LineA, LineB}
use Rattle.rules.specs.declared.Refusal.{Refusal}
use Rattle.rules.specs.declared.Word.{Word}
use Rattle.rules.specs.declared.Word.TheVariants.{YES, NO, INSIDE, OUTSIDE, ON, UNDECIDED, REFUSED}
use Rattle.rules.specs.declared.Reply.{Reply}
use Rattle.rules.specs.Reply.{refuses}
use Rattle.kneukelboom_c.specs.declared.KneukelboomReply.{KneukelboomReply}

abbrev pub word_code : Word → ℕ
word_code YES = 1
word_code NO = 2
word_code INSIDE = 3
word_code OUTSIDE = 4
word_code ON = 5
word_code UNDECIDED = 6
word_code REFUSED = 7

abbrev pub line_code : Line → ℕ
line_code NoLine = 0
line_code LineA = 1
line_code LineB = 2

abbrev pub coded : Reply → KneukelboomReply
coded r =
    record {
      word = word_code r.word;
      visits = r.visits;
      number = r.number;
      line = line_code r.line;
      place = r.place;
    }

abbrev pub coded_checked : Option Refusal → KneukelboomReply
coded_checked none = record { word = 0; visits = 0; number = 0; line = 0; place = 0 }
coded_checked (some r) = coded (refuses r)
