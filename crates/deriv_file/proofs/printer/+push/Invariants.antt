use Rattle.std.proofs.Common.{◌≡◌, ◌++◌, map, drop}
use Rattle.serde_json.specs.View.{view}
use Rattle.rup_base.specs.Gather.{joined}
use Rattle.deriv_tree.specs.Preorder.{stmt_list, block_list, nodes_of}
use Rattle.deriv_file.specs.FileText.{node_data}
use Rattle.deriv_file.proofs.printer.+push.Given as goal

abbrev pub invariant-push_block-loop-node : goal.invariant-push_block-loop-node
invariant-push_block-loop-node l = map view l.out.items ++ map node_data (joined (map stmt_list (drop l.node-index l.node-items)))
    ≡ map view l.fn.out.items ++ map node_data (block_list l.block).nodes

abbrev pub invariant-push_stmt-loop-block : goal.invariant-push_stmt-loop-block
invariant-push_stmt-loop-block l =
    map view l.out.items ++ map node_data (joined (map nodes_of (map block_list (drop l.block-index l.block-items))))
    ≡ map view l.fn.out.items ++ map node_data (stmt_list l.node)
