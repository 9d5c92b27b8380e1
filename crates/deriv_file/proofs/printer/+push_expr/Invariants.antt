use Rattle.std.proofs.Common.{◌≡◌, ◌++◌, map, drop}
use Rattle.serde_json.specs.View.{view}
use Rattle.rup_base.specs.Gather.{joined}
use Rattle.deriv_tree.specs.Preorder.{expr_list}
use Rattle.deriv_file.specs.FileText.{node_data}
use Rattle.deriv_file.proofs.printer.+push_expr.Given as goal

abbrev pub invariant-loop-kid : goal.invariant-loop-kid
invariant-loop-kid l = map view l.out.items ++ map node_data (joined (map expr_list (drop l.kid-index l.kid-items)))
    ≡ map view l.fn.out.items ++ map node_data (expr_list l.node)
