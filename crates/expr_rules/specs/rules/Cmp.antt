-- e-cmp: a comparison is a flag. Less gives that the difference is at least 1 where it is true, and that it is not where it is
-- false; equal gives where it is true that neither part is less. The comparison with sign gives nothing.
use Rattle.std.specs.Prelude.{ℕ, pos, negsuc, List, [], ◌∷◌}
use Rattle.side_certs.specs.LinearForm.{LinearForm, minus}
use Rattle.model_syntax.specs.declared.expr.Cmp.{Cmp}
use Rattle.model_syntax.specs.declared.expr.Cmp.TheVariants as cmp
use Rattle.bed_syntax.specs.declared.expression.BExpr.TheVariants as b
use Rattle.expr_rules.specs.declared.output.ExprOut.{ExprOut}
use Rattle.expr_rules.specs.Operations.{test_of}
use Rattle.expr_rules.specs.Words.{Rule, ◌>>=◌, sum_of, fresh, made, give}

abbrev pub Facts : Type 0
Facts = List LinearForm × List LinearForm

abbrev pub equal : ℕ → LinearForm → LinearForm → Rule Facts
equal at f g = do
  one ← made at (minus f g)
  two ← made at (minus g f)
  give (one ∷ two ∷ [], [])

abbrev pub less : ℕ → LinearForm → LinearForm → Rule Facts
less at f g = do
  one ← made at (sum_of (negsuc 0) ((pos 1, g) ∷ (negsuc 0, f) ∷ []))
  two ← made at (minus f g)
  give (one ∷ [], two ∷ [])

-- what holds where the flag is true, and where it is false
abbrev pub facts : ℕ → Cmp → LinearForm → LinearForm → Rule Facts
facts at cmp.Eq f g = equal at f g
facts at cmp.Lt f g = less at f g
facts at cmp.Slt f g = give ([], [])

abbrev pub after : ℕ → Cmp → ExprOut → ExprOut → Rule ExprOut
after at test p q = do
  s ← fresh at 1
  known ← facts at test p.form q.form
  give (record { code = b.Bin (test_of test) p.code q.code; form = s; yes = known.0; no = known.1 })
