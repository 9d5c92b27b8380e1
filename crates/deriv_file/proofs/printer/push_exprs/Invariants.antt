use Rattle.std.proofs.Common.{◌≡◌, ◌++◌, map, drop}
use Rattle.serde_json.specs.View.{view}
use Rattle.rup_base.specs.Gather.{joined}
use Rattle.deriv_tree.specs.Preorder.{expr_list}
use Rattle.deriv_file.specs.FileText.{node_data}
use Rattle.deriv_file.proofs.printer.push_exprs.Given as goal

abbrev pub invariant-loop-node : goal.invariant-loop-node
invariant-loop-node l = map view l.out.items ++ map node_data (joined (map expr_list (drop l.node-index l.nodes)))
    ≡ map view l.fn.out.items ++ map node_data (joined (map expr_list l.nodes))
