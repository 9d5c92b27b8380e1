-- e-word is sound.
use Rattle.std.proofs.Common.{arith, ℕ, ◌≤◌, List}
use Rattle.model_syntax.specs.declared.expr.Scalar.{Scalar}
use Rattle.model_syntax.specs.declared.expr.Scalar.TheVariants.{Word, Byte, Flag}
use Rattle.model_syntax.specs.declared.program.Param.{Param}
use Rattle.model_syntax.specs.Environment.{Env}
use Rattle.model_syntax.specs.Scope.{Scope}
use Rattle.sym_heap.specs.Context.{Context, top_of}
use Rattle.expr_rules.specs.declared.output.ExprOut.{ExprOut}
use Rattle.expr_rules.specs.Words.{plain}
use Rattle.expr_rules.specs.Sound.{ExprDone, Yields}
use Rattle.expr_rules.specs.rules.Word.{after}
use Rattle.expr_rules.proofs.Came.{Of, came_one, came_done}
use Rattle.expr_rules.proofs.Fresh.{plain_kid, plain_right}

top_small : (t : Scalar) → top_of t ≤ 4294967295
top_small Word = omega arith
top_small Byte = omega arith
top_small Flag = omega arith

pub sound : (ps : List Param) (scope : Scope) (f : Env → ℕ) (t : Scalar) (before : Context) (p : ExprOut) (mid : Context)
    → ExprDone ps scope f t before p mid
    → Yields (ExprDone ps scope f Word before) (after p mid)
sound ps scope f t before p mid d =
    came_done (Of f t p) ps scope before mid (came_one ps scope f t before mid p d) f Word (plain p.code p.form)
    (plain_kid before mid p.code p.form d.known d.locals)
    (λ call v env mem vars fits r.
    let small = r.small in
    let most = top_small t in
    plain_right (f env) Word p.code p.form v mem vars r.value (omega (arith, small, most)) r.form)
