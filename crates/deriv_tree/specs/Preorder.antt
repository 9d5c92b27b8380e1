-- The nodes of a derivation in preorder: a node comes first, then its
-- kids, then its blocks' nodes, each with all that is inside it.
use Rattle.std.specs.Prelude.{ℕ, List, [], ◌∷◌, ◌++◌, map, length}
use Rattle.rup_base.specs.Gather.{joined}
use Rattle.deriv_tree.specs.declared.listed.Listed.{Listed}
use Rattle.deriv_tree.specs.declared.tree.ExprNode.{ExprNode, ExprNode-F, fold-ExprNode}
use Rattle.deriv_tree.specs.declared.tree.StmtNode.{StmtNode, fold-StmtNode}
use Rattle.deriv_tree.specs.declared.tree.Block.{Block, fold-Block}
use Rattle.deriv_tree.specs.declared.tree.Block.TheOpen.{Block-F, StmtNode-F}
use Rattle.deriv_tree.specs.declared.tree.Derivation.{Derivation}

-- how many nodes a block has, and the list of them and of all inside them
pub record BlockList : Type 0 where
  pub count : ℕ
  pub nodes : List Listed

abbrev pub expr_list_step : ExprNode-F (List Listed) → List Listed
expr_list_step e = record { step = e.step; counts = [] } ∷ joined e.kids

abbrev pub expr_list : ExprNode → List Listed
expr_list = fold-ExprNode (List Listed) expr_list_step

abbrev pub count_of : BlockList → ℕ
count_of b = b.count

abbrev pub nodes_of : BlockList → List Listed
nodes_of b = b.nodes

abbrev pub block_list_step : Block-F BlockList (List Listed) → BlockList
block_list_step b = record { count = length b.nodes; nodes = joined b.nodes }

abbrev pub stmt_list_step : StmtNode-F BlockList (List Listed) → List Listed
stmt_list_step n =
    record { step = n.step; counts = map count_of n.blocks } ∷ (joined (map expr_list n.kids) ++ joined (map nodes_of n.blocks))

abbrev pub block_list : Block → BlockList
block_list = fold-Block BlockList (List Listed) block_list_step stmt_list_step

abbrev pub stmt_list : StmtNode → List Listed
stmt_list = fold-StmtNode BlockList (List Listed) block_list_step stmt_list_step

-- the nodes of the outer block, with all inside them
abbrev pub preorder : Derivation → List Listed
preorder d = (block_list d.body).nodes
