-- e-add: a sum that is a word. One certificate: the greatest word less both parts.
use Rattle.std.specs.Prelude.{ℕ, pos, negsuc, List, [], ◌∷◌}
use Rattle.side_certs.specs.LinearForm.{plus}
use Rattle.side_certs.specs.declared.certificate.Cert.{Cert}
use Rattle.bed_syntax.specs.declared.expression.BExpr.TheVariants as b
use Rattle.bed_syntax.specs.declared.operation.BOp.TheVariants as bop
use Rattle.expr_rules.specs.declared.output.ExprOut.{ExprOut}
use Rattle.expr_rules.specs.Words.{Rule, ◌>>=◌, most, sum_of, shown, made, give, plain}

abbrev pub after : List Cert → ℕ → ExprOut → ExprOut → Rule ExprOut
after certs at p q = do
  _ ← shown at certs (sum_of (pos most) ((negsuc 0, p.form) ∷ (negsuc 0, q.form) ∷ []))
  f ← made at (plus p.form q.form)
  give (plain (b.Bin bop.Add p.code q.code) f)
