use Rattle.std.proofs.Common.{◌≡◌, ◌≤◌, max, map, drop}
use Rattle.rup_base.specs.Word as words
use Rattle.rup_base.specs.Gather.{greatest}
use Rattle.deriv_tree.specs.Measure as spec
use Rattle.deriv_tree.specs.declared.tree.StmtNode.{out-StmtNode}
use Rattle.deriv_tree.proofs.measure.+depth.Given as goal

abbrev pub invariant-block_depth-loop-node : goal.invariant-block_depth-loop-node
invariant-block_depth-loop-node l = record {
  fits : l.deepest ≤ 4294967295;
  total : words.counted (max l.deepest (greatest (map spec.stmt_depth (drop l.node-index l.node-items))))
      ≡ words.counted (spec.block_depth l.block);
}

abbrev pub invariant-stmt_depth-loop-block : goal.invariant-stmt_depth-loop-block
invariant-stmt_depth-loop-block l = record {
  fits : l.deepest ≤ 4294967295;
  total : words.counted (max l.deepest (greatest (map spec.block_depth (drop l.block-index l.block-items))))
      ≡ words.counted (max (greatest (map spec.expr_depth (out-StmtNode l.node).kids))
      (greatest (map spec.block_depth (out-StmtNode l.node).blocks)));
}
