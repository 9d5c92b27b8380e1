use Rattle.std.proofs.Common.{arith, rules, SFits}
use Rattle.std.specs.Int.{w64}
use Rattle.std.proofs.lemmas.Int.{ints, to_z-of_z}
use Rattle.side_certs.proofs.laws.Combinations.{number_sum}
use Rattle.side_certs.proofs.combining.SumCombination.number_at.Goals as goal

pub returns : goal.returns
returns c =
    let whole = number_sum c.args.place c.args.self.now.constant c.args.self.now.parts.now in
    let fits : SFits w64 c.args.self.now.constant = search rules in
    let few = c.requires in
    let constant = rw (to_z-of_z w64 c.args.self.now.constant fits) at c.number_of_constant.ensures.number in
    omega (
      arith,
      ints,
      whole,
      few,
      constant,
      c.number_of_constant.ensures.near.0,
      c.number_of_constant.ensures.near.1,
      c.parts_at.ensures.sum,
      c.parts_at.ensures.near.0,
      c.parts_at.ensures.near.1,
    )
