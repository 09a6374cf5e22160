-- `pass`: where bytes came they are fed.
use Rattle.std.proofs.Common.{ap, ◌∙◌, ℕ, take}
use Rattle.std.proofs.lemmas.List.{take_min}
use Rattle.reading.proofs.Answers.{answer-goes}
use Rattle.reading.proofs.pass.Goals as goal

pub returns-in-Some : goal.returns-in-Some
returns-in-Some c =
    let chunk = c.args.chunk.now in
    let came = ap (λ (n : ℕ). take n chunk) c.min.ensures ∙ take_min c.in-Some.n chunk in
    let any = rw c.in-Some.is at c.in-Some.n-test.1 in rw c.in-Some.is (answer-goes c.in-Some.n any came c.feed.ensures)
