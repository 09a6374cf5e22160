-- `product` adds the products of halves with their carries: no column is too large.
use Rattle.std.proofs.Common.{ℕ, ◌*◌, ◌/◌, ◌%◌, ◌<◌, ◌≤◌, sym, ◌∙◌, arith, rules}
use Rattle.large.proofs.Columns.{half, largest, halves_small, columns, whole-product}
use Rattle.large.proofs.product.Statement.{statement}
use Rattle.large.proofs.product.Tie as tie

module _ (c : tie.Start) where
  abbrev x : ℕ
  x = c.args.x

  abbrev y : ℕ
  y = c.args.y

  -- the halves, and their four products
  x-high : x / half < half
  x-high = omega (arith, c.ranges.x.fits)

  y-high : y / half < half
  y-high = omega (arith, c.ranges.y.fits)

  high : x / half * (y / half) ≤ largest
  high = halves_small x-high y-high

  middle : x / half * (y % half) ≤ largest
  middle = halves_small x-high (omega arith)

  cross : x % half * (y / half) ≤ largest
  cross = halves_small (omega arith) y-high

  least : x % half * (y % half) ≤ largest
  least = halves_small {a = x % half} {b = y % half} (omega arith) (omega arith)

returns : tie.Need-returns
returns c =
    columns (x c / half * (y c / half)) (x c / half * (y c % half)) (x c % half * (y c / half))
    (x c % half * (y c % half))
    ∙ sym (whole-product (x c) (y c))

pub product_spec : {M : Type 1} → statement M
product_spec =
    tie.close (tie.spec
    (λ c. record { fits = omega (arith, cross c) }) (λ c. record { fits = omega (arith, least c) })
    (λ c. record { fits = omega (arith, middle c) }) (λ c. record { fits = omega (arith, middle c, least c) })
    (λ c. record { fits = omega (arith, middle c, least c) }) (λ c. record { fits = omega (arith, high c) })
    (λ c. record { fits = omega (arith, high c, middle c, least c) })
    (λ c. record { fits = omega (arith, high c, middle c, least c, cross c) }) (search rules) (search rules) returns)
