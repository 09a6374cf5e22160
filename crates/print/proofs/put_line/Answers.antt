-- `put_line`: each call writes behind what is written already, and no field is longer than the widest line allows.
use Rattle.std.proofs.Common.{List, ◌∷◌, ℕ, ◌+◌, ◌≤◌, arith, rules, length}
use Rattle.rules.specs.declared.Word.{Word}
use Rattle.print.specs.Decimal.{decimal}
use Rattle.print.specs.Printed.{word_bytes, printed}
use Rattle.print.specs.Put.{Put}
use Rattle.print.proofs.Digits.{length-decimal}
use Rattle.print.proofs.Width.{length-word}
use Rattle.print.proofs.Writing.{put-behind, put-size, put_left}
use Rattle.print.proofs.put_line.Goals as goal

-- how far an ordinal, a number's field and a word's field go at most
module _ {d e : List ℕ} {at i : ℕ} where
  decimal-ends : (n : ℕ) → Put d at (decimal n) e i → i ≤ at + 20
  decimal-ends n p = let most = length-decimal n in let end = p.behind in omega arith

  number-ends : (n : ℕ) → Put d at (9 ∷ decimal n) e i → i ≤ at + 21
  number-ends n p = let most = length-decimal n in let end = p.behind in omega arith

  word-ends : (w : Word) → Put d at (9 ∷ word_bytes w) e i → i ≤ at + 10
  word-ends w p = let most = length-word w in let end = p.behind in omega arith

ruleset ends = (arith, put-size, decimal-ends, number-ends, word-ends)

pub word-requires : goal.word-requires
word-requires c = omega ends

pub number-requires : goal.number-requires
number-requires c = omega ends

pub number-requires-2 : goal.number-requires-2
number-requires-2 c = omega ends

pub letter-requires : goal.letter-requires
letter-requires c = omega ends

pub number-requires-3 : goal.number-requires-3
number-requires-3 c = omega ends

pub byte-requires : goal.byte-requires
byte-requires c = omega ends

pub returns : goal.returns
unfolding printed
returns c =
    let h : c.args.at ≤ length c.args.out.now = omega arith in
    let to_word = put-behind _ _ h _ c.decimal.ensures.put c.word.ensures.put in
    let to-visits = put-behind _ _ h _ to_word c.number.ensures.put in
    let to_number = put-behind _ _ h _ to-visits c.number-2.ensures.put in
    let to-line = put-behind _ _ h _ to_number c.letter.ensures.put in
    let to-place = put-behind _ _ h _ to-line c.number-3.ensures.put in
    put_left (search rules) (put-behind _ _ h _ to-place c.byte.ensures.put)
