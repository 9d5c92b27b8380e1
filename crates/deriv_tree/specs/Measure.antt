-- The size and the depth of a derivation.
use Rattle.std.specs.Prelude.{ℕ, ◌+◌, max, min, map, sum}
use Rattle.rup_base.specs.Gather.{greatest}
use Rattle.deriv_tree.specs.declared.tree.ExprNode.{ExprNode, ExprNode-F, fold-ExprNode}
use Rattle.deriv_tree.specs.declared.tree.StmtNode.{StmtNode, fold-StmtNode}
use Rattle.deriv_tree.specs.declared.tree.Block.{Block, fold-Block}
use Rattle.deriv_tree.specs.declared.tree.Block.TheOpen.{Block-F, StmtNode-F}
use Rattle.deriv_tree.specs.declared.tree.Derivation.{Derivation}

-- a node and those inside it
abbrev pub expr_size_step : ExprNode-F ℕ → ℕ
expr_size_step e = 1 + sum e.kids

abbrev pub expr_size : ExprNode → ℕ
expr_size = fold-ExprNode ℕ expr_size_step

abbrev pub block_size_step : Block-F ℕ ℕ → ℕ
block_size_step b = sum b.nodes

abbrev pub stmt_size_step : StmtNode-F ℕ ℕ → ℕ
stmt_size_step n = sum (map expr_size n.kids) + 1 + sum n.blocks

abbrev pub block_size : Block → ℕ
block_size = fold-Block ℕ ℕ block_size_step stmt_size_step

abbrev pub stmt_size : StmtNode → ℕ
stmt_size = fold-StmtNode ℕ ℕ block_size_step stmt_size_step

-- the number of nodes
abbrev pub size : Derivation → ℕ
size d = block_size d.body

-- one more than the greatest depth inside
abbrev pub expr_depth_step : ExprNode-F ℕ → ℕ
expr_depth_step e = greatest e.kids + 1

abbrev pub expr_depth : ExprNode → ℕ
expr_depth = fold-ExprNode ℕ expr_depth_step

abbrev pub block_depth_step : Block-F ℕ ℕ → ℕ
block_depth_step b = greatest b.nodes

abbrev pub stmt_depth_step : StmtNode-F ℕ ℕ → ℕ
stmt_depth_step n = max (greatest (map expr_depth n.kids)) (greatest n.blocks) + 1

abbrev pub block_depth : Block → ℕ
block_depth = fold-Block ℕ ℕ block_depth_step stmt_depth_step

abbrev pub stmt_depth : StmtNode → ℕ
stmt_depth = fold-StmtNode ℕ ℕ block_depth_step stmt_depth_step

-- a node of the outer block has depth 1, and each other node one more than the node that holds it; the greatest counts
abbrev pub depth : Derivation → ℕ
depth d = block_depth d.body
