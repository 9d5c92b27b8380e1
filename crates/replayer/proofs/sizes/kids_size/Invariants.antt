use Rattle.std.proofs.Common.{◌≡◌, ◌+◌, map, sum, drop}
use Rattle.deriv_tree.specs.Measure as spec
use Rattle.replayer.proofs.sizes.kids_size.Given as goal

abbrev pub invariant-loop-node : goal.invariant-loop-node
invariant-loop-node l = l.size + sum (map spec.expr_size (drop l.node-index l.nodes)) ≡ sum (map spec.expr_size l.nodes)
