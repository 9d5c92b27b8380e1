use Rattle.std.proofs.Common.{◌≡◌, ◌≤◌, max, map, drop}
use Rattle.rup_base.specs.Word as words
use Rattle.rup_base.specs.Gather.{greatest}
use Rattle.deriv_tree.specs.Measure as spec
use Rattle.deriv_tree.proofs.measure.exprs_depth.Given as goal

abbrev pub invariant-loop-node : goal.invariant-loop-node
invariant-loop-node l = record {
  fits : l.deepest ≤ 4294967295;
  total : words.counted (max l.deepest (greatest (map spec.expr_depth (drop l.node-index l.nodes))))
      ≡ words.counted (greatest (map spec.expr_depth l.nodes));
}
