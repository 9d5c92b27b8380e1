-- e-not: the other flag, whose facts are exchanged.
use Rattle.std.specs.Prelude.{ℕ, pos, negsuc, [], ◌∷◌}
use Rattle.bed_syntax.specs.declared.expression.BExpr.TheVariants as b
use Rattle.bed_syntax.specs.declared.operation.BOp.TheVariants as bop
use Rattle.expr_rules.specs.declared.output.ExprOut.{ExprOut}
use Rattle.expr_rules.specs.Words.{Rule, ◌>>=◌, sum_of, made, give}

abbrev pub after : ℕ → ExprOut → Rule ExprOut
after at p = do
  f ← made at (sum_of (pos 1) ((negsuc 0, p.form) ∷ []))
  give (record { code = b.Bin bop.Eq p.code (b.Lit 0); form = f; yes = p.no; no = p.yes })
