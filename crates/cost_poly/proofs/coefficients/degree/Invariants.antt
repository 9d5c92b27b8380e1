use Rattle.std.proofs.Common.{◌≡◌, slice_index_or}
use Rattle.cost_poly.specs.Polynomial as polynomial
use Rattle.cost_poly.proofs.coefficients.degree.Given as goal

-- the greatest so far
abbrev pub invariant-loop-place : goal.invariant-loop-place
invariant-loop-place l = l.degree
    ≡ polynomial.greatest (polynomial.term_degree (λ place. slice_index_or l.numbers place 0)) l.place
