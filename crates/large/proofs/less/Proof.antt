-- `less`: where the low word is below, the high ones may be the same.
use Rattle.std.proofs.Common.{◌^◌, ◌<◌, arith, rules}
use Rattle.large.proofs.Columns.{carried-small, order-carried}
use Rattle.large.proofs.less.Statement.{statement}
use Rattle.large.proofs.less.Tie as tie

add-result : tie.Need-overflow_add-result
add-result c =
    let s = c.before.before in
    let k = carried-small s.args.a.low s.args.b.low c.before.carried.ensures in
    record { fits = omega (arith, s.requires) }

returns : tie.Need-returns
returns c =
    let k = c.before.before in
    let a = k.before.args.a in
    let b = k.before.args.b in
    let l : a.low < 2 ^ 64 = search rules in
    let m : b.low < 2 ^ 64 = search rules in
    order-carried a.high a.low b.high b.low _ l m k.carried.ensures

pub less_spec : {M : Type 1} → statement M
less_spec = tie.close (tie.spec (search rules) add-result returns)
