-- `ready`: a table that is built is kept; else 13 before the build; then what the build says decides, and what it
-- leaves in the table.
use Rattle.std.proofs.Common.{rules}
use Rattle.ready.specs.Readied.{store_of}
use Rattle.ready.proofs.Tables.{kept_same, under-13, as-told, built-readies}
use Rattle.ready.proofs.ready.Goals as goal

pub returns-then-held : goal.returns-then-held
returns-then-held c =
    kept_same c.args.line (store_of c.args.store) c.args.place (c.requires.built c.if-held.true)

pub returns-then-held-2 : goal.returns-then-held-2
returns-then-held-2 c = under-13 c.args.line c.args.place c.requires c.if-held-2.true c.refused.ensures

pub returns : goal.returns
returns c =
    let built = c.build-built in
    let told = as-told c.args.line built.result c.map_err.ensures.cases (λ refusal told h. search rules) in
    built-readies c.args.line c.args.place c.requires built.result c.if-held-2.false c.points.ensures
    built.ensures.result_value built.ensures.table_after told
