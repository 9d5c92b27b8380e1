-- e-cut: the lowest byte of a word.
use Rattle.std.specs.Prelude.{ℕ}
use Rattle.bed_syntax.specs.declared.expression.BExpr.TheVariants as b
use Rattle.bed_syntax.specs.declared.operation.BOp.TheVariants as bop
use Rattle.expr_rules.specs.declared.output.ExprOut.{ExprOut}
use Rattle.expr_rules.specs.Words.{Rule, fresh_result}

abbrev pub after : ℕ → ExprOut → Rule ExprOut
after at p = fresh_result at 255 (b.Bin bop.And p.code (b.Lit 255))
