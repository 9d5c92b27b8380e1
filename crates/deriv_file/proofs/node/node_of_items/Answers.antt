use Rattle.std.proofs.Common.{sym}
use Rattle.deriv_file.proofs.Parts.{node_of_items_none}
use Rattle.deriv_file.proofs.node.node_of_items.Goals as goal

pub returns-in_default-clause-node : goal.returns-in_default-clause-node
returns-in_default-clause-node c = sym (node_of_items_none c.args.items.now c.in_default.len_below)
