-- e-mask: bits of a word, which are at most the mask and at most the word. Condition 4: the mask is a constant, a word.
use Rattle.std.specs.Prelude.{ℕ}
use Rattle.side_certs.specs.LinearForm.{minus}
use Rattle.bed_syntax.specs.declared.expression.BExpr.TheVariants as b
use Rattle.bed_syntax.specs.declared.operation.BOp.TheVariants as bop
use Rattle.expr_rules.specs.declared.output.ExprOut.{ExprOut}
use Rattle.expr_rules.specs.Words.{Rule, ◌>>=◌, most, number_in, found, fresh, fact, give, plain}

abbrev pub after : ℕ → ExprOut → ExprOut → Rule ExprOut
after at p q = do
  k ← found (number_in 0 most q.form) at 4
  s ← fresh at k
  _ ← fact at (minus p.form s)
  give (plain (b.Bin bop.And p.code q.code) s)
