-- e-lit: a number is itself.
use Rattle.std.specs.Prelude.{ℕ, pos}
use Rattle.side_certs.specs.LinearForm.{constant}
use Rattle.bed_syntax.specs.declared.expression.BExpr.TheVariants as b
use Rattle.expr_rules.specs.declared.output.ExprOut.{ExprOut}
use Rattle.expr_rules.specs.Words.{Rule, ◌>>=◌, made, give, plain}

abbrev pub after : ℕ → ℕ → Rule ExprOut
after at n = do
  f ← made at (constant (pos n))
  give (plain (b.Lit n) f)
