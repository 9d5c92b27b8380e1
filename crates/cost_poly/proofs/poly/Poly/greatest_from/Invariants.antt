use Rattle.std.proofs.Common.{◌≡◌}
use Rattle.cost_poly.specs.Polynomial as polynomial
use Rattle.cost_poly.proofs.poly.Poly.greatest_from.Given as goal

-- the greatest so far
abbrev pub invariant-loop-b : goal.invariant-loop-b
invariant-loop-b l = l.greatest ≡ polynomial.greatest (λ b. polynomial.greatest (polynomial.cubic l.self l.t l.a b) 8) l.b
