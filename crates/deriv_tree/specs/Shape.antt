-- What a node of each rule has, and which trees are whole.
use Rattle.std.specs.Prelude.{ℕ, ◌≡◌, ◌≤◌, Bool, true, false, not, ◌&&◌, ◌==◌, map, length}
use Rattle.rup_base.specs.Gather.{all_true}
use Rattle.deriv_tree.specs.declared.rule.Rule.{Rule}
use Rattle.deriv_tree.specs.declared.rule.Rule.TheVariants.{ELit, EVar, ELen, ENot, EWord, EByte, ECut, EGet, ETab, ERw, SNote}
use Rattle.deriv_tree.specs.declared.rule.Rule.TheVariants.{SLet, SPut, SMove, SIf, SFor, SMap, SFold}
use Rattle.deriv_tree.specs.declared.tree.ExprNode.{ExprNode, ExprNode-F, fold-ExprNode}
use Rattle.deriv_tree.specs.declared.tree.StmtNode.{StmtNode, fold-StmtNode}
use Rattle.deriv_tree.specs.declared.tree.Block.{Block, fold-Block}
use Rattle.deriv_tree.specs.declared.tree.Block.TheOpen.{Block-F, StmtNode-F}
use Rattle.deriv_tree.specs.declared.tree.Derivation.{Derivation}
use Rattle.deriv_tree.specs.Measure.{size}

-- the rules of statements; the others are of expressions
abbrev pub is_expression : Rule → Bool
is_expression SNote = false
is_expression SLet = false
is_expression SPut = false
is_expression SMove = false
is_expression SIf = false
is_expression SFor = false
is_expression SMap = false
is_expression SFold = false
is_expression _ = true

-- the number of expression nodes that a node of the rule has as kids
abbrev pub kids : Rule → ℕ
kids ELit = 0
kids EVar = 0
kids ELen = 0
kids SNote = 0
kids ENot = 1
kids EWord = 1
kids EByte = 1
kids ECut = 1
kids EGet = 1
kids ETab = 1
kids ERw = 1
kids SLet = 1
kids SIf = 1
kids SMap = 1
kids SFold = 1
kids _ = 2

-- the number of its blocks
abbrev pub blocks : Rule → ℕ
blocks SIf = 2
blocks SFor = 1
blocks _ = 0

-- the rule of an equation
abbrev pub is_rewrite : Rule → Bool
is_rewrite ERw = true
is_rewrite _ = false

-- each node is of a rule of expressions and has its rule's number of kids
abbrev pub expr_shaped_step : ExprNode-F Bool → Bool
expr_shaped_step e = is_expression e.step.rule && ((length e.kids == kids e.step.rule) && all_true e.kids)

abbrev pub expr_shaped : ExprNode → Bool
expr_shaped = fold-ExprNode Bool expr_shaped_step

abbrev pub block_shaped_step : Block-F Bool Bool → Bool
block_shaped_step b = all_true b.nodes

-- the same of a rule of statements, and the number of blocks
abbrev pub stmt_shaped_step : StmtNode-F Bool Bool → Bool
stmt_shaped_step n =
    not (is_expression n.step.rule)
    && ((length n.kids == kids n.step.rule)
    && ((length n.blocks == blocks n.step.rule) && (all_true (map expr_shaped n.kids) && all_true n.blocks)))

abbrev pub block_shaped : Block → Bool
block_shaped = fold-Block Bool Bool block_shaped_step stmt_shaped_step

abbrev pub stmt_shaped : StmtNode → Bool
stmt_shaped = fold-StmtNode Bool Bool block_shaped_step stmt_shaped_step

-- the greatest number of nodes
abbrev pub most_nodes : ℕ
most_nodes = 20_000

-- each node has its rule's numbers of kids and blocks, and there are not too many nodes
pub record IsWhole (d : Derivation) : Type 0 where
  pub shaped : block_shaped d.body ≡ true
  pub small : size d ≤ most_nodes
