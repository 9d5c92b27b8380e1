-- What the rules of statements without blocks give, and what is left of their rows after the first steps.
use Rattle.std.specs.Prelude.{ℕ, Bool, true, false, List}
use Rattle.model_syntax.specs.Names.{Name}
use Rattle.model_syntax.specs.declared.expr.Scalar.{Scalar}
use Rattle.model_syntax.specs.declared.stmt.Stmt.{Stmt, Stmt-F}
use Rattle.model_syntax.specs.declared.stmt.Stmt.TheOpen as s
use Rattle.sym_heap.specs.declared.parts.Clause.{Clause}
use Rattle.sym_heap.specs.Ends.{Standing, standing}
use Rattle.deriv_tree.specs.declared.tree.Step.{Step}
use Rattle.expr_rules.specs.declared.output.ExprOut.{ExprOut}
use Rattle.expr_rules.specs.Words.{Rule, ◌>>=◌, refuse, Judged}
use Rattle.stmt_rules.specs.declared.loops.ElementLocals.{ElementLocals}
use Rattle.stmt_rules.specs.declared.loops.FoldLocals.{FoldLocals}
use Rattle.stmt_rules.specs.declared.output.StmtOut.{StmtOut}
use Rattle.stmt_rules.specs.Nesting.{now}
use Rattle.stmt_rules.specs.Row.{binding, putting, moving, mapping, folding}
use Rattle.stmt_rules.specs.rules.Fold as fold_rule
use Rattle.stmt_rules.specs.rules.Map as map_rule

-- the statement has blocks
abbrev pub has_blocks : Stmt-F Stmt → Bool
has_blocks (s.Let x a) = false
has_blocks (s.Put a i v) = false
has_blocks (s.Move b a i v) = false
has_blocks (s.If test names keep first second) = true
has_blocks (s.For x low high names keep body) = true
has_blocks (s.Map a x v) = false
has_blocks (s.Fold t a x v) = false

-- a rule that is for a statement without blocks
abbrev pub simple : Step → List Judged → ℕ → Stmt-F Stmt → Rule StmtOut
simple step kids at (s.Let x a) = binding step kids at x a
simple step kids at (s.Put a i v) = putting step kids at a i v
simple step kids at (s.Move b a i v) = moving step kids at b a i v
simple step kids at (s.If test names keep first second) = refuse at 1
simple step kids at (s.For x low high names keep body) = refuse at 1
simple step kids at (s.Map a x v) = mapping step kids at a x v
simple step kids at (s.Fold t a x v) = folding step kids at t a x v

-- s-map from its kid on
abbrev pub mapped : ℕ → Name → ElementLocals → Clause → Standing → Rule ExprOut → Rule StmtOut
mapped at a l k before kid = do
  p ← kid
  map_rule.after at a l k before p.code

-- s-map once its array is found
abbrev pub map_begun : ℕ → Name → Name → ElementLocals → Clause → Rule ExprOut → Rule StmtOut
map_begun at a x l k kid = do
  c ← now
  _ ← map_rule.begins at a x l k
  mapped at a l k (standing c) kid

-- s-fold from its kid on
abbrev pub folded : ℕ → Name → FoldLocals → Clause → ℕ × Scalar → Standing → Rule ExprOut → Rule StmtOut
folded at t l k first before kid = do
  p ← kid
  fold_rule.after at t l k first before p.code

-- s-fold once its array and the scalar's first value are found
abbrev pub fold_begun : ℕ → Name → Name → FoldLocals → Clause → ℕ × Scalar → Rule ExprOut → Rule StmtOut
fold_begun at t x l k first kid = do
  c ← now
  _ ← fold_rule.begins at t x l k first.1
  folded at t l k first (standing c) kid
