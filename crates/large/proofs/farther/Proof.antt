-- `farther` compares reach·v with g·(g + 1) and h·(h + 1), and g + h more on the left.
use Rattle.std.proofs.Common.{◌≡◌, ◌+◌, ◌*◌, ◌^◌, ◌≤◌, ltb, ◌∙◌, arith, rules}
use Rattle.large.specs.Value.{value_of}
use Rattle.large.proofs.Columns.{both-more}
use Rattle.large.proofs.Squares.{most, product_small, high_small, next-products}
use Rattle.large.proofs.farther.Statement.{statement}
use Rattle.large.proofs.farther.Tie as tie

-- no product is too large
module _ (s : tie.Start) where
  reach-small : s.args.reach * s.args.v ≤ most
  reach-small =
      product_small {x = s.args.reach} {y = s.args.v} (omega (arith, s.requires.2)) (omega (arith, s.requires.3))

  g-small : s.args.g * (s.args.g + 1) ≤ most
  g-small =
      product_small {x = s.args.g} {y = s.args.g + 1} (omega (arith, s.requires.0)) (omega (arith, s.requires.0))

  h-small : s.args.h * (s.args.h + 1) ≤ most
  h-small =
      product_small {x = s.args.h} {y = s.args.h + 1} (omega (arith, s.requires.1)) (omega (arith, s.requires.1))

-- the places of the code: once the left side is known
abbrev start : tie.After-plus-left → tie.Start
start c = c.before.before

abbrev left : tie.After-product-3 → tie.After-plus-left
left c = c.before.before

plus-requires : tie.Need-plus-left-requires
plus-requires c κs =
    let p = c.product in
    let n = reach-small c.before in
    let h = high_small p.result.high p.result.low p.ensures (omega arith) in (omega arith, omega arith)

plus-requires-2 : tie.Need-plus-right-requires
plus-requires-2 c κs =
    let s = start (left c) in
    let p = c.before.product-2 in
    let q = c.product-3 in
    let g = high_small p.result.high p.result.low p.ensures (let n = g-small s in omega arith) in
    let h = high_small q.result.high q.result.low q.ensures (let n = h-small s in omega arith) in
    (omega arith, omega arith)

-- both sides, as numbers
left-value : (c : tie.After-plus-left) → let a = (start c).args in value_of c.plus-left.result ≡ a.reach * a.v + (a.g + a.h)
left-value c =
    let a = (start c).args in
    c.plus-left.ensures ∙ (λ i. c.before.product.ensures i + (0 * 2 ^ 64 + (a.g + a.h))) ∙ omega arith

right-value : (c : tie.After-plus-right) → let a = (start (left c.before)).args in
    value_of c.plus-right.result ≡ a.g * (a.g + 1) + a.h * (a.h + 1)
right-value c = c.plus-right.ensures ∙ (λ i. c.before.before.product-2.ensures i + c.before.product-3.ensures i)

less-requires : tie.Need-less-requires
less-requires c κs =
    let s = start (left c.before) in
    let m = g-small s in
    let n = h-small s in
    let h = high_small c.plus-right.result.high c.plus-right.result.low (right-value c) (omega arith) in omega arith

returns : tie.Need-returns
returns c =
    let l = left c.before.before in
    let a = (start l).args in
    c.less.ensures ∙ (λ i. ltb (left-value l i) ((right-value c.before ∙ next-products a.g a.h) i))
    ∙ both-more (a.reach * a.v) (a.g * a.g + a.h * a.h) (a.g + a.h)

pub farther_spec : {M : Type 1} → statement M
farther_spec =
    tie.close (tie.spec
    (λ c. record { fits = omega (arith, c.requires.0, c.requires.1) }) (search rules) plus-requires
    (λ c. record { fits = omega (arith, (start c).requires.0) }) (search rules)
    (λ c. record { fits = omega (arith, (start c.before).requires.1) }) (search rules)
    plus-requires-2 less-requires returns)
