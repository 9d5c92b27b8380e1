-- e-both: a flag that is true where both are, and then has the facts of both.
use Rattle.std.specs.Prelude.{ℕ, [], ◌++◌}
use Rattle.bed_syntax.specs.declared.expression.BExpr.TheVariants as b
use Rattle.bed_syntax.specs.declared.operation.BOp.TheVariants as bop
use Rattle.expr_rules.specs.declared.output.ExprOut.{ExprOut}
use Rattle.expr_rules.specs.Words.{Rule, ◌>>=◌, fresh, give}

abbrev pub after : ℕ → ExprOut → ExprOut → Rule ExprOut
after at p q = do
  s ← fresh at 1
  give (record { code = b.Bin bop.And p.code q.code; form = s; yes = p.yes ++ q.yes; no = [] })
