-- e-either: a flag that is false where both are, and then has the facts of both.
use Rattle.std.specs.Prelude.{ℕ, [], ◌++◌}
use Rattle.bed_syntax.specs.declared.expression.BExpr.TheVariants as b
use Rattle.bed_syntax.specs.declared.operation.BOp.TheVariants as bop
use Rattle.expr_rules.specs.declared.output.ExprOut.{ExprOut}
use Rattle.expr_rules.specs.Words.{Rule, ◌>>=◌, fresh, give}

abbrev pub after : ℕ → ExprOut → ExprOut → Rule ExprOut
after at p q = do
  s ← fresh at 1
  give (record { code = b.Bin bop.Or p.code q.code; form = s; yes = []; no = p.no ++ q.no })
