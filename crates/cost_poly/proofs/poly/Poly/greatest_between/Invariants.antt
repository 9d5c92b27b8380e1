use Rattle.std.proofs.Common.{◌≡◌}
use Rattle.cost_poly.specs.Polynomial as polynomial
use Rattle.cost_poly.proofs.poly.Poly.greatest_between.Given as goal

-- the greatest so far
abbrev pub invariant-loop-c : goal.invariant-loop-c
invariant-loop-c l = l.greatest ≡ polynomial.greatest (polynomial.cubic l.self l.t l.a l.b) l.c
