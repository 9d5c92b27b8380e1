use Rattle.std.proofs.Common.{length, ◌≡◌, ◌<◌, ℕ, slice_index_or}
use Rattle.cost_poly.specs.Polynomial as polynomial
use Rattle.cost_poly.proofs.poly.Poly.sums.Given as goal

-- the coefficients so far
abbrev pub invariant-loop-place : goal.invariant-loop-place
invariant-loop-place l = record {
  size : length l.numbers ≡ 45;
  numbers : (place : ℕ) → place < l.place → slice_index_or l.numbers place 0 ≡ polynomial.sum l.self l.other place;
}
