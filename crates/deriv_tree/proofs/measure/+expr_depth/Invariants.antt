use Rattle.std.proofs.Common.{◌≡◌, ◌≤◌, max, map, drop}
use Rattle.rup_base.specs.Word as words
use Rattle.rup_base.specs.Gather.{greatest}
use Rattle.deriv_tree.specs.Measure as spec
use Rattle.deriv_tree.specs.declared.tree.ExprNode.{out-ExprNode}
use Rattle.deriv_tree.proofs.measure.+expr_depth.Given as goal

abbrev pub invariant-loop-kid : goal.invariant-loop-kid
invariant-loop-kid l = record {
  fits : l.deepest ≤ 4294967295;
  total : words.counted (max l.deepest (greatest (map spec.expr_depth (drop l.kid-index l.kid-items))))
      ≡ words.counted (greatest (map spec.expr_depth (out-ExprNode l.node).kids));
}
