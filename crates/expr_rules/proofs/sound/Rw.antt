-- e-rw is sound: in each state that fits, the other expression has the same value.
use Rattle.std.proofs.Common.{◌≡◌, ℕ, true, List, Some, Ok, subst}
use Rattle.model_syntax.specs.declared.expr.Expr.{Expr}
use Rattle.model_syntax.specs.declared.expr.Scalar.{Scalar}
use Rattle.model_syntax.specs.declared.program.Param.{Param}
use Rattle.model_syntax.specs.ExprType.{type_of}
use Rattle.model_syntax.specs.Formed.{expr_formed}
use Rattle.model_syntax.specs.Scope.{Scope}
use Rattle.model_syntax.specs.Value.{eval}
use Rattle.sym_heap.specs.Context.{Context}
use Rattle.equations.specs.Book.{Turn, Laws}
use Rattle.expr_rules.specs.declared.output.ExprOut.{ExprOut}
use Rattle.expr_rules.specs.Sound.{ExprRan, ExprDone}

pub sound : (turn : Turn) → Laws turn → (ps : List Param) (scope : Scope) (t : Scalar) (before : Context) (step : ℕ) (x y : Expr)
    → turn step x ≡ Some y → expr_formed x ≡ true → type_of x scope ≡ Ok t
    → (p : ExprOut) (mid : Context) → ExprDone ps scope (eval y) t before p mid → ExprDone ps scope (eval x) t before p mid
sound turn laws ps scope t before step x y is formed typed p mid d = record {
  extends = d.extends;
  consistent = d.consistent;
  scoped = d.scoped;
  known = d.known;
  yes_known = d.yes_known;
  no_known = d.no_known;
  locals = d.locals;
  runs = λ lengths call numbers env mem vars values fits.
      subst (λ (n : ℕ). ExprRan call n t before p mid numbers env mem vars)
      ((laws.keeps_meaning step x y is formed).value lengths scope env values t typed)
      (d.runs lengths call numbers env mem vars values fits);
}
