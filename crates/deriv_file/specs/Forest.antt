-- The trees of a preorder list. From its last node on, each node takes the trees that stand first among those behind it:
-- expressions as its kids, statements as the nodes of its blocks.
use Rattle.std.specs.Prelude.{ℕ, List, [], ◌∷◌, take, drop, reverse, sum, if◌then◌else◌}
use Rattle.deriv_tree.specs.declared.tree.ExprNode.{ExprNode, roll-ExprNode}
use Rattle.deriv_tree.specs.declared.tree.StmtNode.{StmtNode, roll-StmtNode}
use Rattle.deriv_tree.specs.declared.tree.Block.{Block, roll-Block}
use Rattle.deriv_tree.specs.declared.listed.Listed.{Listed}
use Rattle.deriv_tree.specs.Shape.{is_expression, kids}
use Rattle.deriv_file.specs.declared.forest.Forest.{Forest}

-- the trees of expressions and of statements in the order of the list, which no node has taken
pub record Trees : Type 0 where
  pub exprs : List ExprNode
  pub stmts : List StmtNode

abbrev pub no_trees : Trees
no_trees = record { exprs = []; stmts = [] }

-- blocks of so many statements each
abbrev pub cut : List ℕ → List StmtNode → List Block
cut [] ns = []
cut (c ∷ cs) ns = roll-Block (record { nodes = take c ns }) ∷ cut cs (drop c ns)

abbrev pub grow_expr : Listed → Trees → Trees
grow_expr n t = record {
  exprs = roll-ExprNode (record { step = n.step; kids = take (kids n.step.rule) t.exprs }) ∷ drop (kids n.step.rule) t.exprs;
  stmts = t.stmts;
}

abbrev pub grow_stmt : Listed → Trees → Trees
grow_stmt n t = record {
  exprs = drop (kids n.step.rule) t.exprs;
  stmts = roll-StmtNode (record { step = n.step; kids = take (kids n.step.rule) t.exprs; blocks = cut n.counts t.stmts })
      ∷ drop (sum n.counts) t.stmts;
}

-- the trees with the node in front of them
abbrev pub grow : Listed → Trees → Trees
grow n t = if is_expression n.step.rule then grow_expr n t else grow_stmt n t

-- the trees of a list in front of others
abbrev pub grown : List Listed → Trees → Trees
grown [] t = t
grown (n ∷ ns) t = grow n (grown ns t)

-- the outer block of a list
abbrev pub body_of : ℕ → List Listed → Block
body_of block ns = roll-Block (record { nodes = take block (grown ns no_trees).stmts })

-- the trees that a forest holds: its last one stands first
abbrev pub trees_of : Forest → Trees
trees_of f = record { exprs = reverse f.exprs.items; stmts = reverse f.stmts.items }
