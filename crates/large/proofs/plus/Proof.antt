-- `plus`: the low words wrap exactly where 1 is carried.
use Rattle.std.proofs.Common.{◌^◌, ◌<◌, arith, rules}
use Rattle.large.proofs.Columns.{carried-small, sum-carried}
use Rattle.large.proofs.plus.Statement.{statement}
use Rattle.large.proofs.plus.Tie as tie

-- the high words and what is carried
high_fits : tie.Need-overflow_add-result-2
high_fits c =
    let s = c.before.before.before.before in
    let w = c.before.before.before in
    let k = carried-small w.wrapping_add_u64-low.result s.args.a.low c.before.before.carried-carry.ensures in
    record { fits = omega (arith, s.requires.0, s.requires.1) }

returns : tie.Need-returns
returns c =
    let k = c.before.before in
    let w = k.before in
    let a = w.before.args.a in
    let b = w.before.args.b in
    let l : a.low < 2 ^ 64 = search rules in
    let m : b.low < 2 ^ 64 = search rules in
    sum-carried a.high a.low b.high b.low _ _ l m w.wrapping_add_u64-low.ensures k.carried-carry.ensures

pub plus_spec : {M : Type 1} → statement M
plus_spec = tie.close (tie.spec (search rules) (search rules) (search rules) high_fits returns)
