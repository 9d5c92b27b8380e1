-- e-sub: a difference that is not below 0. One certificate: the first part less the second.
use Rattle.std.specs.Prelude.{ℕ, List}
use Rattle.side_certs.specs.LinearForm.{minus}
use Rattle.side_certs.specs.declared.certificate.Cert.{Cert}
use Rattle.bed_syntax.specs.declared.expression.BExpr.TheVariants as b
use Rattle.bed_syntax.specs.declared.operation.BOp.TheVariants as bop
use Rattle.expr_rules.specs.declared.output.ExprOut.{ExprOut}
use Rattle.expr_rules.specs.Words.{Rule, ◌>>=◌, shown, made, give, plain}

abbrev pub after : List Cert → ℕ → ExprOut → ExprOut → Rule ExprOut
after certs at p q = do
  _ ← shown at certs (minus p.form q.form)
  f ← made at (minus p.form q.form)
  give (plain (b.Bin bop.Sub p.code q.code) f)
