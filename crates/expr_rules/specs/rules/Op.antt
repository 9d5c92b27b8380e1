-- e-op: an operation of words, of whose result it is only known that it is a word.
use Rattle.std.specs.Prelude.{ℕ}
use Rattle.model_syntax.specs.declared.expr.Op.{Op}
use Rattle.bed_syntax.specs.declared.expression.BExpr.TheVariants as b
use Rattle.expr_rules.specs.declared.output.ExprOut.{ExprOut}
use Rattle.expr_rules.specs.Operations.{code_of}
use Rattle.expr_rules.specs.Words.{Rule, most, fresh_result}

abbrev pub after : ℕ → Op → ExprOut → ExprOut → Rule ExprOut
after at o p q = fresh_result at most (b.Bin (code_of o) p.code q.code)
