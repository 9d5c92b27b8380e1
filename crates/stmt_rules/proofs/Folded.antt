-- What a node gives, and what a block does, from what its parts give.
use Rattle.std.proofs.Common.{◌≡◌, refl, sym, ◌∙◌, ap, arith, ℕ, ◌+◌, OnOk, ◌&&◌, map, sum, List, [], ◌∷◌, Result, Ok, Err}
use Rattle.rup_base.specs.Answers.{AnswersWith}
use Rattle.rup_base.specs.declared.fail.Fail.{Fail}
use Rattle.model_syntax.specs.declared.stmt.Stmt.{Stmt, out-Stmt}
use Rattle.sym_heap.specs.Context.{Context}
use Rattle.equations.specs.Book.{Turn}
use Rattle.deriv_tree.specs.declared.tree.StmtNode.{StmtNode, out-StmtNode, map-StmtNode, roll-out-StmtNode, fold-roll-StmtNode}
use Rattle.deriv_tree.specs.declared.tree.Block.{Block, out-Block, map-Block, roll-out-Block, fold-roll-Block}
use Rattle.expr_rules.specs.Words.{asked, are_none, sizes}
use Rattle.expr_rules.specs.Row as expr
use Rattle.stmt_rules.specs.declared.output.StmtOut.{StmtOut}
use Rattle.stmt_rules.specs.Row.{StmtJudged, BlockJudged, block_step, judged_step, judged, block_judged, block_sizes, fits, parts}
use Rattle.stmt_rules.specs.Row.{is_note, note_counts, walk}
use Rattle.stmt_rules.specs.Words.{nothing}
use Rattle.stmt_rules.specs.rules.Note as note_rule

stmt_open : (turn : Turn) (n : StmtNode)
    → judged turn n ≡ judged_step turn
    (map-StmtNode Block StmtNode BlockJudged StmtJudged (block_judged turn) (judged turn) (out-StmtNode n))
stmt_open turn n = ap (judged turn) (sym (roll-out-StmtNode n))
    ∙ fold-roll-StmtNode BlockJudged StmtJudged block_step (judged_step turn) (out-StmtNode n)

block_open : (turn : Turn) (b : Block)
    → block_judged turn b ≡ block_step
    (map-Block Block StmtNode BlockJudged StmtJudged (block_judged turn) (judged turn) (out-Block b))
block_open turn b = ap (block_judged turn) (sym (roll-out-Block b))
    ∙ fold-roll-Block BlockJudged StmtJudged block_step (judged_step turn) (out-Block b)

pub judged_row : (turn : Turn) (n : StmtNode) (at : ℕ) (t : Stmt) (c : Context) (result : Result StmtOut Fail) (after : Context)
    → asked (fits (out-StmtNode n).step.rule (out-Stmt t)) at 1 ≡ Ok tt
    → AnswersWith result after (parts (out-StmtNode n).step (map (expr.judged turn) (out-StmtNode n).kids)
    (map (block_judged turn) (out-StmtNode n).blocks) at (out-Stmt t) c)
    → AnswersWith result after ((judged turn n).row at t c)
judged_row turn n at t c result after fit is = rw (stmt_open turn n) (rw fit is)

-- nothing stands in a node that has no kids and no blocks
pub alone_is : (turn : Turn) (n : StmtNode) → are_none (map (block_judged turn) (out-StmtNode n).blocks)
    ≡ are_none (out-StmtNode n).blocks
alone_is turn n = by (out-StmtNode n).blocks where
  by : (bs : List Block) → are_none (map (block_judged turn) bs) ≡ are_none bs
  by [] = refl
  by (b ∷ bs) = refl

-- what a note gives
pub judged_as_note : (turn : Turn) (n : StmtNode) (at : ℕ) (c : Context) (result : Result StmtOut Fail) (after : Context)
    → asked (are_none (out-StmtNode n).kids && are_none (out-StmtNode n).blocks) at 1 ≡ Ok tt
    → asked (note_counts (out-StmtNode n).step) at 2 ≡ Ok tt
    → AnswersWith result after (note_rule.row at (out-StmtNode n).step.args (out-StmtNode n).step.certs c)
    → AnswersWith result after ((judged turn n).as_note at c)
judged_as_note turn n at c result after alone counts is = rw (stmt_open turn n) (rw (alone_is turn n, alone, counts) is)

-- the number of nodes of a note that has nothing in it
pub note_size : (turn : Turn) (n : StmtNode) → (out-StmtNode n).kids ≡ [] → (out-StmtNode n).blocks ≡ []
    → (judged turn n).size ≡ 1
note_size turn n kids blocks = rw (stmt_open turn n, kids, blocks) refl

pub judged_note : (turn : Turn) (n : StmtNode) → (judged turn n).is_note ≡ is_note (out-StmtNode n).step.rule
judged_note turn n = rw (stmt_open turn n) refl

pub block_row : (turn : Turn) (b : Block) (at owner cond : ℕ) (ts : List Stmt) (c : Context)
    → (block_judged turn b).row at owner cond ts c ≡ walk owner cond (map (judged turn) (out-Block b).nodes) at ts nothing c
block_row turn b at owner cond ts c = rw (block_open turn b) refl

pub block_size_sum : (turn : Turn) (b : Block)
    → (block_judged turn b).size ≡ sum (map (λ (n : StmtJudged). n.size) (map (judged turn) (out-Block b).nodes))
block_size_sum turn b = rw (block_open turn b) refl

-- the number of nodes, from those of the kids and of the blocks
pub judged_size : (turn : Turn) (n : StmtNode)
    → (judged turn n).size ≡ 1 + sizes (map (expr.judged turn) (out-StmtNode n).kids)
    + block_sizes (map (block_judged turn) (out-StmtNode n).blocks)
judged_size turn n = rw (stmt_open turn n) refl

pub judged_counted : (turn : Turn) (n : StmtNode) (next after : ℕ) (result : Result StmtOut Fail)
    → OnOk result (after ≡ next + 1 + sizes (map (expr.judged turn) (out-StmtNode n).kids)
    + block_sizes (map (block_judged turn) (out-StmtNode n).blocks))
    → OnOk result (after ≡ next + (judged turn n).size)
judged_counted turn n next after (Ok out) is =
    let size = judged_size turn n in
    omega (arith, is, size)
judged_counted turn n next after (Err f) is = tt
