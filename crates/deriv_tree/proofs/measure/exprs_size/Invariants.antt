use Rattle.std.proofs.Common.{◌≡◌, ◌≤◌, ◌+◌, map, sum, drop}
use Rattle.rup_base.specs.Word as words
use Rattle.deriv_tree.specs.Measure as spec
use Rattle.deriv_tree.proofs.measure.exprs_size.Given as goal

abbrev pub invariant-loop-node : goal.invariant-loop-node
invariant-loop-node l = record {
  fits : l.size ≤ 4294967295;
  total : words.counted (l.size + sum (map spec.expr_size (drop l.node-index l.nodes)))
      ≡ words.counted (sum (map spec.expr_size l.nodes));
}
