use Rattle.std.proofs.Common.{SFits, rules, arith, ◌<◌, ◌^◌}
use Rattle.std.specs.Int.{w64}
use Rattle.run_setup.proofs.Values.{product_bounds}
use Rattle.run_setup.proofs.judging.product_is_small.Goals as goal

pub returns-clause-low : goal.returns-clause-low
returns-clause-low c =
    let fits : SFits w64 c.args.coefficient = search rules in
    let small : c.args.value < 2 ^ 32 = omega arith in
    (product_bounds c.args.coefficient c.args.value fits small).0

pub returns-clause-high : goal.returns-clause-high
returns-clause-high c =
    let fits : SFits w64 c.args.coefficient = search rules in
    let small : c.args.value < 2 ^ 32 = omega arith in
    (product_bounds c.args.coefficient c.args.value fits small).1
