-- How many nodes a derivation has.
use Rattle.std.proofs.Common.{◌≡◌, refl, ◌∙◌, ap, subst, arith, ℕ, ◌+◌, List, [], ◌∷◌, map, sum}
use Rattle.equations.specs.Book.{Turn}
use Rattle.deriv_tree.specs.Measure.{expr_size, expr_size_step, stmt_size, stmt_size_step, block_size, block_size_step}
use Rattle.deriv_tree.specs.declared.tree.ExprNode.{ExprNode, ExprNode-F, ind-ExprNode, map-ExprNode, roll-ExprNode}
use Rattle.deriv_tree.specs.declared.tree.ExprNode.{fold-roll-ExprNode}
use Rattle.deriv_tree.specs.declared.tree.StmtNode.{StmtNode, roll-StmtNode, map-StmtNode, fold-roll-StmtNode}
use Rattle.deriv_tree.specs.declared.tree.StmtNode as stmt_node
use Rattle.deriv_tree.specs.declared.tree.Block.{Block, roll-Block, map-Block, ind-Block, fold-roll-Block}
use Rattle.deriv_tree.specs.declared.tree.Block.TheOpen.{Block-F, StmtNode-F}
use Rattle.expr_rules.specs.Words.{Judged}
use Rattle.expr_rules.specs.Row as expr
use Rattle.stmt_rules.specs.Row.{StmtJudged, BlockJudged, block_step, judged_step, judged, block_judged}

-- Expressions.

abbrev Counted : Turn → ExprNode → Type 0
Counted turn node = (expr.judged turn node).size ≡ expr_size node

kids_counted : (turn : Turn) (nodes : List ((n : ExprNode) × Counted turn n))
    → map (λ (k : Judged). k.size) (map (expr.judged turn) (map (λ p. p.0) nodes)) ≡ map expr_size (map (λ p. p.0) nodes)
kids_counted turn [] = refl
kids_counted turn (p ∷ ps) =
    ap (λ n. n ∷ map (λ (k : Judged). k.size) (map (expr.judged turn) (map (λ q. q.0) ps))) p.1
    ∙ ap (λ l. expr_size p.0 ∷ l) (kids_counted turn ps)

pub expr_size_is : (turn : Turn) (node : ExprNode) → (expr.judged turn node).size ≡ expr_size node
expr_size_is turn = ind-ExprNode (Counted turn) (λ z y is. subst (λ r. Counted turn (roll-ExprNode r)) is (rolled y)) where
  rolled : (y : ExprNode-F ((n : ExprNode) × Counted turn n))
      → Counted turn (roll-ExprNode (map-ExprNode ((n : ExprNode) × Counted turn n) ExprNode (λ p. p.0) y))
  rolled y =
      let x : ExprNode-F ExprNode = map-ExprNode ((n : ExprNode) × Counted turn n) ExprNode (λ p. p.0) y in
      rw (fold-roll-ExprNode Judged (expr.judged_step turn) x, fold-roll-ExprNode ℕ expr_size_step x)
      (ap (λ l. 1 + sum l) (kids_counted turn y.kids))

all_counted : (turn : Turn) (nodes : List ExprNode) → map (λ (k : Judged). k.size) (map (expr.judged turn) nodes)
    ≡ map expr_size nodes
all_counted turn [] = refl
all_counted turn (n ∷ ns) =
    ap (λ k. k ∷ map (λ (j : Judged). j.size) (map (expr.judged turn) ns)) (expr_size_is turn n)
    ∙ ap (λ l. expr_size n ∷ l) (all_counted turn ns)

-- Statements and blocks.

abbrev BlockCounted : Turn → Block → Type 0
BlockCounted turn b = (block_judged turn b).size ≡ block_size b

abbrev StmtCounted : Turn → StmtNode → Type 0
StmtCounted turn n = (judged turn n).size ≡ stmt_size n

module _ (turn : Turn) where
  abbrev InBlock : Type 0
  InBlock = (b : Block) × BlockCounted turn b

  abbrev InStmt : Type 0
  InStmt = (n : StmtNode) × StmtCounted turn n

  nodes_counted : (ys : List InStmt) → map (λ (n : StmtJudged). n.size) (map (judged turn) (map (λ p. p.0) ys))
      ≡ map stmt_size (map (λ p. p.0) ys)
  nodes_counted [] = refl
  nodes_counted (y ∷ ys) =
      ap (λ k. k ∷ map (λ (n : StmtJudged). n.size) (map (judged turn) (map (λ p. p.0) ys))) y.1
      ∙ ap (λ l. stmt_size y.0 ∷ l) (nodes_counted ys)

  blocks_counted : (ys : List InBlock) → map (λ (b : BlockJudged). b.size) (map (block_judged turn) (map (λ p. p.0) ys))
      ≡ map block_size (map (λ p. p.0) ys)
  blocks_counted [] = refl
  blocks_counted (y ∷ ys) =
      ap (λ k. k ∷ map (λ (b : BlockJudged). b.size) (map (block_judged turn) (map (λ p. p.0) ys))) y.1
      ∙ ap (λ l. block_size y.0 ∷ l) (blocks_counted ys)

  block_counted : (y : Block-F InBlock InStmt)
      → BlockCounted turn (roll-Block (map-Block InBlock InStmt Block StmtNode (λ b. b.0) (λ n. n.0) y))
  block_counted y =
      let x : Block-F Block StmtNode = map-Block InBlock InStmt Block StmtNode (λ b. b.0) (λ n. n.0) y in
      rw (
        fold-roll-Block BlockJudged StmtJudged block_step (judged_step turn) x,
        fold-roll-Block ℕ ℕ block_size_step
            stmt_size_step x,
      ) (ap sum (nodes_counted y.nodes))

  stmt_counted : (y : StmtNode-F InBlock InStmt)
      → StmtCounted turn (roll-StmtNode (map-StmtNode InBlock InStmt Block StmtNode (λ b. b.0) (λ n. n.0) y))
  stmt_counted y =
      let x : StmtNode-F Block StmtNode = map-StmtNode InBlock InStmt Block StmtNode (λ b. b.0) (λ n. n.0) y in
      let kids = ap sum (all_counted turn x.kids) in
      let blocks = ap sum (blocks_counted y.blocks) in
      rw (
        fold-roll-StmtNode BlockJudged StmtJudged block_step (judged_step turn) x,
        fold-roll-StmtNode ℕ ℕ block_size_step
            stmt_size_step x,
      ) (omega (arith, kids, blocks))

  pub block_size_is : (b : Block) → BlockCounted turn b
  block_size_is =
      ind-Block (BlockCounted turn) (StmtCounted turn)
      (λ x y is. subst (λ z. BlockCounted turn (roll-Block z)) is (block_counted y))
      (λ x y is. subst (λ z. StmtCounted turn (roll-StmtNode z)) is (stmt_counted y))

  pub stmt_size_is : (n : StmtNode) → StmtCounted turn n
  stmt_size_is =
      stmt_node.ind-StmtNode (BlockCounted turn) (StmtCounted turn)
      (λ x y is. subst (λ z. BlockCounted turn (roll-Block z)) is (block_counted y))
      (λ x y is. subst (λ z. StmtCounted turn (roll-StmtNode z)) is (stmt_counted y))
