use Rattle.std.proofs.Common.{ap, arith, rules, SFits}
use Rattle.std.specs.Int.{w64, w128}
use Rattle.std.proofs.lemmas.Int.{ints, to_z-of_z}
use Rattle.side_certs.specs.Combination as spec
use Rattle.side_certs.proofs.laws.Combinations.{split_first}
use Rattle.side_certs.proofs.combining.+parts_at.Goals as goal

pub returns-in-len1-up-clause-sum : goal.returns-in-len1-up-clause-sum
returns-in-len1-up-clause-sum t c =
    let part = c.part-item.result in
    let whole = ap (spec.parts_at c.args.place) (split_first c.args.parts.now part c.in-len1-up.len_at_least c.part-item.is) in
    let times_fit : SFits w64 part.times = search rules in
    let number_fits : SFits w128 c.number_at.result = search rules in
    let few = c.requires in
    let product = rw (
      to_z-of_z w64 part.times times_fit,
      to_z-of_z w128 c.number_at.result number_fits,
      c.number_at.ensures.number,
    ) at c.product.ensures.product in
    omega (
      arith,
      ints,
      whole,
      product,
      few,
      c.product.ensures.near.0,
      c.product.ensures.near.1,
      c.parts_at.ensures.sum,
      c.parts_at.ensures.near.0,
      c.parts_at.ensures.near.1,
    )
