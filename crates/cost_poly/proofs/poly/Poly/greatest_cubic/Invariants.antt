use Rattle.std.proofs.Common.{◌≡◌}
use Rattle.cost_poly.specs.Polynomial as polynomial
use Rattle.cost_poly.proofs.poly.Poly.greatest_cubic.Given as goal

-- the greatest so far
abbrev pub invariant-loop-a : goal.invariant-loop-a
invariant-loop-a l = l.greatest
    ≡ polynomial.greatest (λ a. polynomial.greatest (λ b. polynomial.greatest (polynomial.cubic l.self l.t a b) 8) 8) l.a
