-- e-remk: a remainder by a number, which is less than the number and at most the dividend. Condition 4: the divisor is a constant
-- from 1 to the greatest word.
use Rattle.std.specs.Prelude.{ℕ, ◌-◌}
use Rattle.side_certs.specs.LinearForm.{minus}
use Rattle.bed_syntax.specs.declared.expression.BExpr.TheVariants as b
use Rattle.bed_syntax.specs.declared.operation.BOp.TheVariants as bop
use Rattle.expr_rules.specs.declared.output.ExprOut.{ExprOut}
use Rattle.expr_rules.specs.Words.{Rule, ◌>>=◌, most, number_in, found, fresh, fact, give, plain}

abbrev pub after : ℕ → ExprOut → ExprOut → Rule ExprOut
after at p q = do
  k ← found (number_in 1 most q.form) at 4
  s ← fresh at (k - 1)
  _ ← fact at (minus p.form s)
  give (plain (b.Bin bop.Remu p.code q.code) s)
