-- e-shift: a word shifted to the left, where the word times the power of two is a word. Condition 4: the shift is a constant from
-- 0 to 31. One certificate: the greatest word less the product.
use Rattle.std.specs.Prelude.{ℕ, ◌^◌, pos, List, Option, option_map}
use Rattle.side_certs.specs.LinearForm.{LinearForm}
use Rattle.side_certs.specs.declared.certificate.Cert.{Cert}
use Rattle.bed_syntax.specs.declared.operation.BOp.TheVariants as bop
use Rattle.expr_rules.specs.declared.output.ExprOut.{ExprOut}
use Rattle.expr_rules.specs.Words.{Rule, ◌>>=◌, number_in, found}
use Rattle.expr_rules.specs.rules.Mulk.{multiple}

-- 2 to the power of a shift, which is a number from 0 to 31
abbrev pub power : LinearForm → Option ℕ
power f = option_map (λ k. 2 ^ k) (number_in 0 31 f)

abbrev pub after : List Cert → ℕ → ExprOut → ExprOut → Rule ExprOut
after certs at p q = do
  n ← found (power q.form) at 4
  multiple certs at (pos n) bop.Slu p q
