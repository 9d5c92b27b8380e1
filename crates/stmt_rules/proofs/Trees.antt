-- Whatever a tree gives is right, where the derivations of expressions are.
use Rattle.std.proofs.Common.{subst, ℕ, ◌&&◌, List, [], ◌∷◌, map}
use Rattle.model_syntax.specs.declared.expr.Expr.{Expr}
use Rattle.model_syntax.specs.declared.stmt.Stmt.{Stmt}
use Rattle.equations.specs.Book.{Turn}
use Rattle.deriv_tree.specs.declared.tree.ExprNode.{ExprNode}
use Rattle.deriv_tree.specs.declared.tree.StmtNode.{StmtNode, roll-StmtNode, map-StmtNode, fold-roll-StmtNode, ind-StmtNode}
use Rattle.deriv_tree.specs.declared.tree.Block.{Block, roll-Block, map-Block, ind-Block, fold-roll-Block}
use Rattle.deriv_tree.specs.declared.tree.Block.TheOpen.{Block-F, StmtNode-F}
use Rattle.expr_rules.specs.Row as expr
use Rattle.expr_rules.specs.Sound.{IsSound, InstancesAreSound}
use Rattle.expr_rules.specs.Words.{are_none}
use Rattle.stmt_rules.specs.Row.{StmtJudged, BlockJudged, block_step, judged_step, judged, block_judged}
use Rattle.stmt_rules.specs.Sound.{AreSound, BlocksAreSound, StatementsAreSound}
use Rattle.stmt_rules.proofs.Blocks.{IsSoundNode, SoundNodes, block_sound}
use Rattle.stmt_rules.proofs.sound.Node.{SoundKids, SoundBlocks, row_sound}
use Rattle.stmt_rules.proofs.sound.Note.{note_sound}

module _ (turn : Turn) (exprs : (node : ExprNode) (at : ℕ) (e : Expr) → IsSound e (expr.row turn node at e)) where
  abbrev BlockIn : Block → Type 0
  BlockIn b = (at owner cond : ℕ) (ts : List Stmt) → AreSound ts ((block_judged turn b).row at owner cond ts)

  abbrev StmtIn : StmtNode → Type 0
  StmtIn n = IsSoundNode (judged turn n)

  abbrev InBlock : Type 0
  InBlock = (b : Block) × BlockIn b

  abbrev InStmt : Type 0
  InStmt = (n : StmtNode) × StmtIn n

  kids_sound : (nodes : List ExprNode) → SoundKids (map (expr.judged turn) nodes)
  kids_sound [] = tt
  kids_sound (n ∷ ns) = (exprs n, kids_sound ns)

  nodes_sound : (ys : List InStmt) → SoundNodes (map (judged turn) (map (λ p. p.0) ys))
  nodes_sound [] = tt
  nodes_sound (y ∷ ys) = (y.1, nodes_sound ys)

  blocks_sound : (ys : List InBlock) → SoundBlocks (map (block_judged turn) (map (λ p. p.0) ys))
  blocks_sound [] = tt
  blocks_sound (y ∷ ys) = (y.1, blocks_sound ys)

  block_in_step : (y : Block-F InBlock InStmt)
      → BlockIn (roll-Block (map-Block InBlock InStmt Block StmtNode (λ b. b.0) (λ n. n.0) y))
  block_in_step y =
      let x : Block-F Block StmtNode = map-Block InBlock InStmt Block StmtNode (λ b. b.0) (λ n. n.0) y in
      rw (fold-roll-Block BlockJudged StmtJudged block_step (judged_step turn) x)
      (λ at owner cond ts. block_sound owner cond (map (judged turn) x.nodes) (nodes_sound y.nodes) at ts)

  stmt_in_step : (y : StmtNode-F InBlock InStmt)
      → StmtIn (roll-StmtNode (map-StmtNode InBlock InStmt Block StmtNode (λ b. b.0) (λ n. n.0) y))
  stmt_in_step y =
      let x : StmtNode-F Block StmtNode = map-StmtNode InBlock InStmt Block StmtNode (λ b. b.0) (λ n. n.0) y in
      rw (fold-roll-StmtNode BlockJudged StmtJudged block_step (judged_step turn) x) (record {
        note = λ at. note_sound x.step (are_none x.kids && are_none (map (block_judged turn) x.blocks)) at;
        statement = λ at t. row_sound x.step (map (expr.judged turn) x.kids) (map (block_judged turn) x.blocks)
            (kids_sound x.kids) (blocks_sound y.blocks) at t;
      })

  block_in : (b : Block) → BlockIn b
  block_in =
      ind-Block BlockIn StmtIn
      (λ x y is. subst (λ z. BlockIn (roll-Block z)) is (block_in_step y))
      (λ x y is. subst (λ z. StmtIn (roll-StmtNode z)) is (stmt_in_step y))

  stmt_in : (n : StmtNode) → StmtIn n
  stmt_in =
      ind-StmtNode BlockIn StmtIn
      (λ x y is. subst (λ z. BlockIn (roll-Block z)) is (block_in_step y))
      (λ x y is. subst (λ z. StmtIn (roll-StmtNode z)) is (stmt_in_step y))

pub blocks_are_sound : InstancesAreSound → BlocksAreSound
blocks_are_sound exprs turn laws block at owner cond ts =
    block_in turn (λ node n e. exprs turn laws node n e) block at owner cond ts

pub statements_are_sound : InstancesAreSound → StatementsAreSound
statements_are_sound exprs turn laws node at t = (
  (λ is. rw is ((stmt_in turn (λ n k e. exprs turn laws n k e) node).note at)),
  (λ is. rw is ((stmt_in turn (λ n k e. exprs turn laws n k e) node).statement at t)),
)
