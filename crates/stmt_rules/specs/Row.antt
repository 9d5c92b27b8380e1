-- What a tree of nodes derives for statements. The conditions of a node are numbered as in the rules of expressions: 1 that the
-- rule is for the statement, 2 the numbers of arguments and certificates, 3 that arguments are in range, that made forms are
-- within the limits and that there is room for what the rule adds, and from 4 on the rule's own. A rule that is not built is
-- for no statement.
use Rattle.std.specs.Prelude.{ℕ, ◌+◌, nat_eq, nat_le, Bool, true, false, ◌&&◌, List, [], ◌∷◌, length, map, sum, if◌then◌else◌}
use Rattle.expr_rules.specs.rules.Get as get_rule
use Rattle.model_syntax.specs.Names.{Name}
use Rattle.model_syntax.specs.declared.expr.Expr.{Expr, out-Expr}
use Rattle.model_syntax.specs.declared.expr.Scalar.{Scalar}
use Rattle.model_syntax.specs.declared.stmt.Le.{Le}
use Rattle.model_syntax.specs.declared.stmt.Stmt.{Stmt, Stmt-F, out-Stmt}
use Rattle.model_syntax.specs.declared.stmt.Stmt.TheOpen as s
use Rattle.equations.specs.Book.{Turn}
use Rattle.deriv_tree.specs.declared.rule.Rule as deriv
use Rattle.deriv_tree.specs.declared.rule.Rule.TheVariants as rule
use Rattle.deriv_tree.specs.declared.tree.Step.{Step}
use Rattle.deriv_tree.specs.declared.tree.StmtNode.{StmtNode, fold-StmtNode}
use Rattle.deriv_tree.specs.declared.tree.Block.{Block, fold-Block}
use Rattle.deriv_tree.specs.declared.tree.Block.TheOpen.{Block-F, StmtNode-F}
use Rattle.expr_rules.specs.Words.{Rule, ◌>>=◌, need, refuse, found, give, counted, Judged, sizes, are_none, one_kid, two_kids}
use Rattle.expr_rules.specs.Row as expr
use Rattle.stmt_rules.specs.declared.output.StmtOut.{StmtOut}
use Rattle.stmt_rules.specs.Words.{nothing, joined, first_local, kind_of}
use Rattle.stmt_rules.specs.rules.Fold as fold_rule
use Rattle.stmt_rules.specs.rules.For as for_rule
use Rattle.stmt_rules.specs.rules.If as if_rule
use Rattle.stmt_rules.specs.rules.Let as let_rule
use Rattle.stmt_rules.specs.rules.Map as map_rule
use Rattle.stmt_rules.specs.rules.Move as move_rule
use Rattle.stmt_rules.specs.rules.Note as note_rule
use Rattle.stmt_rules.specs.rules.Put as put_rule

-- What a node's derivation says: how many nodes it has, whether it is a note, and from the number of the first, what it gives
-- as a note or for a statement, or the first fault.
pub record StmtJudged : Type 0 where
  pub size : ℕ
  pub is_note : Bool
  pub as_note : ℕ → Rule StmtOut
  pub row : ℕ → Stmt → Rule StmtOut

-- the same of a block, whose owner has this number, and this condition for a statement that has no node
pub record BlockJudged : Type 0 where
  pub size : ℕ
  pub row : ℕ → ℕ → ℕ → List Stmt → Rule StmtOut

-- the number of nodes of blocks
abbrev pub block_sizes : List BlockJudged → ℕ
block_sizes blocks = sum (map (λ b. b.size) blocks)

-- Blocks.

-- the next statement has this node; a node too many is for no statement
abbrev pub with_next : (Stmt → List Stmt → Rule StmtOut) → ℕ → List Stmt → Rule StmtOut
with_next next at [] = refuse at 1
with_next next at (t ∷ ts) = next t ts

-- every statement has its node
abbrev pub all_there : ℕ → ℕ → List Stmt → StmtOut → Rule StmtOut
all_there owner cond [] out = give out
all_there owner cond (t ∷ ts) out = refuse owner cond

-- the nodes in order, with the notes among them, after what the ones before gave
abbrev pub walk : ℕ → ℕ → List StmtJudged → ℕ → List Stmt → StmtOut → Rule StmtOut
walk owner cond [] at ts out = all_there owner cond ts out
walk owner cond (n ∷ ns) at ts out =
    if n.is_note then (n.as_note at >>= (λ o. walk owner cond ns (at + n.size) ts (joined out o)))
    else with_next (λ t rest. n.row at t >>= (λ o. walk owner cond ns (at + n.size) rest (joined out o))) at ts

abbrev pub block_step : Block-F BlockJudged StmtJudged → BlockJudged
block_step b = record {
  size = sum (map (λ n. n.size) b.nodes);
  row = λ at owner cond ts. walk owner cond b.nodes at ts nothing;
}

-- Nodes.

abbrev pub fits : deriv.Rule → Stmt-F Stmt → Bool
fits rule.SLet (s.Let x a) = true
fits rule.SPut (s.Put a i v) = true
fits rule.SMove (s.Move b a i v) = true
fits rule.SIf (s.If test names keep first second) = true
fits rule.SFor (s.For x low high names keep body) = true
fits rule.SMap (s.Map a x v) = true
fits rule.SFold (s.Fold t a x v) = true
fits _ _ = false

-- the type of the expression, by the context
abbrev pub kind : ℕ → Expr → Rule Scalar
kind at a c = found (kind_of c (out-Expr a)) at 1 c

-- a node that has no block
abbrev pub no_block : {A : Type 0} → List A → ℕ → Rule (Unit {0})
no_block blocks at = need (are_none blocks) at 1

-- s-let, whose name gets the value of its kid
abbrev pub binding : Step → List Judged → ℕ → Name → Expr → Rule StmtOut
binding step kids at x a = do
  _ ← counted step 1 0 at
  l ← found (first_local step.args) at 3
  p ← one_kid kids at a
  t ← kind at a
  let_rule.after at x l t p

-- s-put, of which one kid is the index and one the value
abbrev pub putting : Step → List Judged → ℕ → Name → Expr → Expr → Rule StmtOut
putting step kids at a i v = do
  _ ← counted step 0 1 at
  _ ← get_rule.before at a
  pq ← two_kids kids at i v
  put_rule.after step.certs at a pq.0 pq.1

-- s-move, after which the array has the name b
abbrev pub moving : Step → List Judged → ℕ → Name → Name → Expr → Expr → Rule StmtOut
moving step kids at b a i v = do
  _ ← counted step 0 1 at
  _ ← move_rule.before at a b
  pq ← two_kids kids at i v
  move_rule.after step.certs at a b pq.0 pq.1

-- two blocks
abbrev pub two_blocks : List BlockJudged → ℕ → Rule (BlockJudged × BlockJudged)
two_blocks (b ∷ d ∷ []) at = give (b, d)
two_blocks blocks at = refuse at 1

-- s-if, whose kid is the test. The nodes of the first block follow those of the kid, and then come those of the second; where a
-- statement of a block has no node, the fault is this node's.
abbrev pub branching : Step → List Judged → List BlockJudged → ℕ → Expr → List Name → List Le → List Stmt → List Stmt
    → Rule StmtOut
branching step kids blocks at test names keep first second = do
  bd ← two_blocks blocks at
  _ ← counted step 0 (length keep + length keep) at
  p ← one_kid kids at test
  if_rule.after at names keep step.certs p
      (bd.0.row (at + 1 + sizes kids) at 4 first) (bd.1.row (at + 1 + sizes kids + bd.0.size) at 5 second)

-- one block
abbrev pub one_block : List BlockJudged → ℕ → Rule BlockJudged
one_block (b ∷ []) at = give b
one_block blocks at = refuse at 1

-- s-for, of which one kid is the first bound and one the second, and whose block's nodes follow theirs
abbrev pub looping : Step → List Judged → List BlockJudged → ℕ → Name → Expr → Expr → List Name → List Le → List Stmt
    → Rule StmtOut
looping step kids blocks at x low high names keep body = do
  b ← one_block blocks at
  _ ← need (for_rule.counts step (length keep)) at 2
  k ← for_rule.counter at step.args
  pq ← two_kids kids at low high
  for_rule.after at x names keep step.certs k pq.0 pq.1 (b.row (at + 1 + sizes kids) at 5 body)

-- s-map, whose kid is the new element
abbrev pub mapping : Step → List Judged → ℕ → Name → Name → Expr → Rule StmtOut
mapping step kids at a x v = do
  _ ← counted step 3 0 at
  l ← map_rule.locals at step.args
  map_rule.row at a x l (one_kid kids at v)

-- s-fold, whose kid is the value of the scalar after an element
abbrev pub folding : Step → List Judged → ℕ → Name → Name → Name → Expr → Rule StmtOut
folding step kids at t a x v = do
  _ ← counted step 4 0 at
  l ← fold_rule.locals at step.args
  fold_rule.row at t a x l (one_kid kids at v)

-- a rule that is for the statement
abbrev pub parts : Step → List Judged → List BlockJudged → ℕ → Stmt-F Stmt → Rule StmtOut
parts step kids blocks at (s.Let x a) = do
  _ ← no_block blocks at
  binding step kids at x a
parts step kids blocks at (s.Put a i v) = do
  _ ← no_block blocks at
  putting step kids at a i v
parts step kids blocks at (s.Move b a i v) = do
  _ ← no_block blocks at
  moving step kids at b a i v
parts step kids blocks at (s.If test names keep first second) = branching step kids blocks at test names keep first second
parts step kids blocks at (s.For x low high names keep body) = looping step kids blocks at x low high names keep body
parts step kids blocks at (s.Map a x v) = do
  _ ← no_block blocks at
  mapping step kids at a x v
parts step kids blocks at (s.Fold t a x v) = do
  _ ← no_block blocks at
  folding step kids at t a x v

abbrev pub stmt_row : Step → List Judged → List BlockJudged → ℕ → Stmt → Rule StmtOut
stmt_row step kids blocks at t = do
  _ ← need (fits step.rule (out-Stmt t)) at 1
  parts step kids blocks at (out-Stmt t)

-- the rule is a note's
abbrev pub is_note : deriv.Rule → Bool
is_note rule.SNote = true
is_note _ = false

-- there is at least the constant of a form, and one certificate
abbrev pub note_counts : Step → Bool
note_counts step = nat_le 1 (length step.args) && nat_eq (length step.certs) 1

-- a note, whose node has nothing inside it
abbrev pub note_row : Step → Bool → ℕ → Rule StmtOut
note_row step alone at = do
  _ ← need alone at 1
  _ ← need (note_counts step) at 2
  note_rule.row at step.args step.certs

abbrev pub judged_step : Turn → StmtNode-F BlockJudged StmtJudged → StmtJudged
judged_step turn n = record {
  size = 1 + sizes (map (expr.judged turn) n.kids) + block_sizes n.blocks;
  is_note = is_note n.step.rule;
  as_note = note_row n.step (are_none n.kids && are_none n.blocks);
  row = stmt_row n.step (map (expr.judged turn) n.kids) n.blocks;
}

abbrev pub judged : Turn → StmtNode → StmtJudged
judged turn = fold-StmtNode BlockJudged StmtJudged block_step (judged_step turn)

abbrev pub block_judged : Turn → Block → BlockJudged
block_judged turn = fold-Block BlockJudged StmtJudged block_step (judged_step turn)

-- a node that is handed over with a statement: a note does not look at it
abbrev pub handed : StmtJudged → ℕ → Stmt → Rule StmtOut
handed n at t = if n.is_note then n.as_note at else n.row at t
