use Rattle.std.proofs.Common.{◌≡◌, ◌+◌, ◌*◌, ◌^◌, ◌≤◌, length}
use Rattle.std.specs.List.{AllByRecursion}
use Rattle.cost_poly.specs.Polynomial as polynomial
use Rattle.cost_poly.proofs.poly.Poly.at.Given as goal

-- the value of what is left completes the value; what is left has room in 128 bits
abbrev pub invariant-terms : goal.invariant-terms
invariant-terms l = (l.sum + polynomial.at l.values l.left ≡ polynomial.at l.values l.self)
    × (l.sum + 2 ^ 104 * length l.left ≤ 2 ^ 104 * 45) × AllByRecursion polynomial.IsSmall l.left

abbrev pub decreases-terms : goal.decreases-terms
decreases-terms l = length l.left
