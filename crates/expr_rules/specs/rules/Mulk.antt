-- e-mulk: a word times a number, where that is a word. Condition 4: the second part is a constant. One certificate: the
-- greatest word less the product.
use Rattle.std.specs.Prelude.{ℕ, ℤ, pos, neg_ℤ, List, [], ◌∷◌, Option}
use Rattle.side_certs.specs.LinearForm.{LinearForm, times, within}
use Rattle.side_certs.specs.declared.certificate.Cert.{Cert}
use Rattle.bed_syntax.specs.declared.expression.BExpr.{BExpr}
use Rattle.bed_syntax.specs.declared.expression.BExpr.TheVariants as b
use Rattle.bed_syntax.specs.declared.operation.BOp.{BOp}
use Rattle.bed_syntax.specs.declared.operation.BOp.TheVariants as bop
use Rattle.expr_rules.specs.declared.output.ExprOut.{ExprOut}
use Rattle.expr_rules.specs.Words.{Rule, ◌>>=◌, most, number_of, sum_of, found, shown_there, give, plain}

-- code of this form, where the certificate closes the goal
abbrev pub product : List Cert → ℕ → Option LinearForm → Option LinearForm → BExpr → Rule ExprOut
product certs at goal form code = do
  _ ← shown_there at certs goal
  f ← found form at 3
  give (plain code f)

-- an operation that gives a multiple of the first part
abbrev pub multiple : List Cert → ℕ → ℤ → BOp → ExprOut → ExprOut → Rule ExprOut
multiple certs at factor op p q =
    product certs at (within (sum_of (pos most) ((neg_ℤ factor, p.form) ∷ []))) (within (times factor p.form))
    (b.Bin op p.code q.code)

abbrev pub after : List Cert → ℕ → ExprOut → ExprOut → Rule ExprOut
after certs at p q = do
  factor ← found (number_of q.form) at 4
  multiple certs at factor bop.Mul p q
