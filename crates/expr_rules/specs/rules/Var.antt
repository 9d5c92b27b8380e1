-- e-var: a scalar is its local and has its form. Condition 1: the name is a scalar.
use Rattle.std.specs.Prelude.{ℕ}
use Rattle.bed_syntax.specs.declared.expression.BExpr.TheVariants as b
use Rattle.model_syntax.specs.Names.{Name}
use Rattle.sym_heap.specs.declared.parts.Held.{Held}
use Rattle.sym_heap.specs.Context.{scalar}
use Rattle.expr_rules.specs.declared.output.ExprOut.{ExprOut}
use Rattle.expr_rules.specs.Words.{Rule, ◌>>=◌, found, give, plain}

abbrev pub held_by : ℕ → Name → Rule Held
held_by at x c = found (scalar c x) at 1 c

abbrev pub after : ℕ → Name → Rule ExprOut
after at x = do
  h ← held_by at x
  give (plain (b.Var h.local) h.form)
