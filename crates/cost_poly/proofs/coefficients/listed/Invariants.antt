use Rattle.std.proofs.Common.{◌≡◌, ◌≤◌, slice_index_or}
use Rattle.cost_poly.specs.Polynomial as polynomial
use Rattle.cost_poly.proofs.coefficients.listed.Given as goal

-- the terms of the places so far, behind which there is room for the next
abbrev pub invariant-loop-place : goal.invariant-loop-place
invariant-loop-place l = record {
  terms : l.terms ≡ polynomial.listed (λ place. slice_index_or l.numbers place 0) l.place;
  behind : polynomial.next_place 0 l.terms ≤ l.place;
}
