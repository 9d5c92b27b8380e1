use Rattle.std.proofs.Common.{◌≡◌, ◌≤◌, ◌+◌, map, sum, drop}
use Rattle.rup_base.specs.Word as words
use Rattle.deriv_tree.specs.Measure as spec
use Rattle.deriv_tree.proofs.measure.+size.Given as goal

abbrev pub invariant-block_size-loop-node : goal.invariant-block_size-loop-node
invariant-block_size-loop-node l = record {
  fits : l.size ≤ 4294967295;
  total : words.counted (l.size + sum (map spec.stmt_size (drop l.node-index l.node-items)))
      ≡ words.counted (spec.block_size l.block);
}

abbrev pub invariant-stmt_size-loop-block : goal.invariant-stmt_size-loop-block
invariant-stmt_size-loop-block l = record {
  fits : l.size ≤ 4294967295;
  total : words.counted (l.size + sum (map spec.block_size (drop l.block-index l.block-items)))
      ≡ words.counted (spec.stmt_size l.node);
}
