use Rattle.std.proofs.Common.{arith, rules, SFits}
use Rattle.std.specs.Int.{w128}
use Rattle.std.proofs.lemmas.Int.{ints, to_z-of_z}
use Rattle.side_certs.proofs.laws.Products.{near_product}
use Rattle.side_certs.proofs.combining.product.Goals as goal

pub returns-clause-near : goal.returns-clause-near
returns-clause-near c =
    let times_fits : SFits w128 c.from.result = search rules in
    let number_fits : SFits w128 c.args.number = search rules in
    let near = near_product 9223372036854775808 1099511627776 c.from.result c.args.number (search rules) c.requires in
    rw (to_z-of_z w128 c.from.result times_fits, to_z-of_z w128 c.args.number number_fits) (omega (arith, ints, near.0, near.1))
