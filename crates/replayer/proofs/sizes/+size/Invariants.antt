use Rattle.std.proofs.Common.{◌≡◌, ◌+◌, map, sum, drop}
use Rattle.deriv_tree.specs.Measure as spec
use Rattle.replayer.proofs.sizes.+size.Given as goal

abbrev pub invariant-size_of_block-loop-node : goal.invariant-size_of_block-loop-node
invariant-size_of_block-loop-node l = l.size + sum (map spec.stmt_size (drop l.node-index l.node-items)) ≡ spec.block_size l.block

abbrev pub invariant-size_of_stmt-loop-block : goal.invariant-size_of_stmt-loop-block
invariant-size_of_stmt-loop-block l = l.size + sum (map spec.block_size (drop l.block-index l.block-items))
    ≡ spec.stmt_size l.node
