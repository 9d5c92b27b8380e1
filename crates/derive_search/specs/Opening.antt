-- Loops over the elements of an array, up to their kid: the conditions of the rule, what stands before, and how the kid begins.
use Rattle.std.specs.Prelude.{ℕ}
use Rattle.model_syntax.specs.Names.{Name}
use Rattle.model_syntax.specs.declared.expr.Scalar.{Scalar}
use Rattle.sym_heap.specs.declared.parts.Clause.{Clause}
use Rattle.sym_heap.specs.Ends.{Standing, standing}
use Rattle.expr_rules.specs.Words.{Rule, ◌>>=◌, give}
use Rattle.stmt_rules.specs.declared.loops.ElementLocals.{ElementLocals}
use Rattle.stmt_rules.specs.declared.loops.FoldLocals.{FoldLocals}
use Rattle.stmt_rules.specs.Nesting.{now}
use Rattle.stmt_rules.specs.rules.Map as map_rule
use Rattle.stmt_rules.specs.rules.Fold as fold_rule

-- the array, and what stood before
abbrev pub map_opens : ℕ → Name → Name → ElementLocals → Rule (Clause × Standing)
map_opens at a x l = do
  k ← map_rule.array at a l
  c ← now
  _ ← map_rule.begins at a x l k
  give (k, standing c)

-- the same, and between them the local and the type that the scalar had
abbrev pub fold_opens : ℕ → Name → Name → Name → FoldLocals → Rule (Clause × (ℕ × Scalar) × Standing)
fold_opens at s a x l = do
  k ← fold_rule.array at s a l
  first ← fold_rule.start at s
  c ← now
  _ ← fold_rule.begins at s x l k first.1
  give (k, first, standing c)
