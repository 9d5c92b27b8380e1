use Rattle.std.proofs.Common.{◌≡◌, length}
use Rattle.cost_poly.specs.Polynomial as polynomial
use Rattle.cost_poly.proofs.poly.Poly.coefficient.Given as goal

-- what is left has the coefficient
abbrev pub invariant-terms : goal.invariant-terms
invariant-terms l = polynomial.coefficient l.a l.b l.left ≡ polynomial.coefficient l.a l.b l.self

abbrev pub decreases-terms : goal.decreases-terms
decreases-terms l = length l.left
