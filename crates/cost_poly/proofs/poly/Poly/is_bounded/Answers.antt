use Rattle.cost_poly.proofs.laws.Places.{coefficients_small}
use Rattle.cost_poly.proofs.poly.Poly.is_bounded.Goals as goal

pub returns-clause-coefficients : goal.returns-clause-coefficients
returns-clause-coefficients c = rw (← c.self.view_is) (coefficients_small 0 _ c.self.invariant.2)

pub returns-clause-bound : goal.returns-clause-bound
returns-clause-bound c = rw (← c.self.view_is) c.self.invariant.2
