-- `good_between` asks for the frame, then for what a leaf or a longer node has to have.
use Rattle.std.proofs.Common.{arith, ◌+◌}
use borrow.Author.Tests.{le-leb, lt-leb}
use Rattle.row.proofs.Parts.{between-parts}
use Rattle.row.proofs.good_between.Goals as goal

pub returns-then-not-frame_good : goal.returns-then-not-frame_good
returns-then-not-frame_good c =
    let a = c.args in
    let parts = between-parts a.points.now a.r a.first a.last c.requires.t.0 c.requires.t.1 in grind (arith, parts)

pub returns-then-last-first : goal.returns-then-last-first
returns-then-last-first c =
    let a = c.args in
    let l = le-leb a.last (a.first + 1) (omega arith) in
    let parts = between-parts a.points.now a.r a.first a.last c.requires.t.0 c.requires.t.1 in grind (arith, parts, l)

pub returns : goal.returns
returns c =
    let a = c.args in
    let l = lt-leb a.last (a.first + 1) (omega arith) in
    let parts = between-parts a.points.now a.r a.first a.last c.requires.t.0 c.requires.t.1 in grind (arith, parts, l)
