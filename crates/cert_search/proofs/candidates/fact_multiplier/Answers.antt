use Rattle.std.proofs.Common.{SFits, rules}
use Rattle.std.specs.Int.{w64}
use Rattle.std.proofs.lemmas.Int.{to_z-of_z}
use Rattle.cert_search.proofs.candidates.fact_multiplier.Goals as goal

pub returns : goal.returns
returns c =
    let goal_fits : SFits w64 c.args.term.1 = search rules in
    let fact_fits : SFits w64 c.coefficient.result = search rules in
    let goal_is = to_z-of_z w64 c.args.term.1 goal_fits in
    let fact_is = to_z-of_z w64 c.coefficient.result fact_fits in
    rw (goal_is, fact_is, c.coefficient.ensures.coefficient) at c.quotient.ensures
