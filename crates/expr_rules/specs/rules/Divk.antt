-- e-divk: a quotient by a number. The number times the quotient is at
-- most the dividend, and what is left is less than the number.
-- Condition 4: the divisor is a constant from 1 on, or the shift to the right is one from 0 to 31.
use Rattle.std.specs.Prelude.{ℕ, ◌-◌, ◌/◌, ℤ, pos, negsuc, nat_abs, neg_ℤ, [], ◌∷◌, Option, Some, None, option_and_then}
use Rattle.std.specs.Prelude.{if◌then◌else◌}
use Rattle.std.specs.Int.Signed.{le_z}
use Rattle.side_certs.specs.LinearForm.{LinearForm}
use Rattle.model_syntax.specs.declared.expr.Op.{Op}
use Rattle.model_syntax.specs.declared.expr.Op.TheVariants as op
use Rattle.bed_syntax.specs.declared.expression.BExpr.TheVariants as b
use Rattle.expr_rules.specs.declared.output.ExprOut.{ExprOut}
use Rattle.expr_rules.specs.Operations.{code_of}
use Rattle.expr_rules.specs.Words.{Rule, ◌>>=◌, most, number_of, sum_of, found, fresh, fact, give, plain}
use Rattle.expr_rules.specs.rules.Shift.{power}

-- the number, if it is one from 1 on
abbrev pub from_one : ℤ → Option ℕ
from_one k = if le_z (pos 1) k then Some (nat_abs k) else None

-- what an operation divides by
abbrev pub divisor : Op → LinearForm → Option ℕ
divisor op.Divu f = option_and_then from_one (number_of f)
divisor op.Shr f = power f
divisor o f = None

abbrev pub after : ℕ → Op → ExprOut → ExprOut → Rule ExprOut
after at o p q = do
  n ← found (divisor o q.form) at 4
  s ← fresh at (most / n)
  _ ← fact at (sum_of (pos 0) ((pos 1, p.form) ∷ (neg_ℤ (pos n), s) ∷ []))
  _ ← fact at (sum_of (pos (n - 1)) ((pos n, s) ∷ (negsuc 0, p.form) ∷ []))
  give (plain (b.Bin (code_of o) p.code q.code) s)
