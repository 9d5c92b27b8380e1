use Rattle.cost_poly.proofs.Listed.{coefficient_small}
use Rattle.cost_poly.proofs.poly.Poly.small_coefficient.Goals as goal

pub returns-clause-small : goal.returns-clause-small
returns-clause-small c = rw (c.coefficient.ensures)
    (coefficient_small c.args.first c.args.second c.args.self.now c.is_bounded.ensures.coefficients)
