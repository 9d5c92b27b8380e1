use Rattle.std.proofs.Common.{◌≡◌, ◌++◌, map, drop}
use Rattle.serde_json.specs.View.{view}
use Rattle.deriv_tree.specs.Preorder.{block_list, count_of}
use Rattle.deriv_file.specs.FileText as spec
use Rattle.deriv_file.proofs.node_value.counts_value.Given as goal

abbrev pub invariant-loop-block : goal.invariant-loop-block
invariant-loop-block l = map view l.values.items ++ map spec.whole (map count_of (map block_list (drop l.block-index l.blocks)))
    ≡ map spec.whole (map count_of (map block_list l.blocks))
