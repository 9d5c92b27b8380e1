use Rattle.std.proofs.Common.{◌≡◌, ◌+◌, map, sum, drop}
use Rattle.deriv_tree.specs.Measure as spec
use Rattle.replayer.proofs.sizes.+expr_size.Given as goal

abbrev pub invariant-loop-kid : goal.invariant-loop-kid
invariant-loop-kid l = l.size + sum (map spec.expr_size (drop l.kid-index l.kid-items)) ≡ spec.expr_size l.node
