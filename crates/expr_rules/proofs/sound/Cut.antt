-- e-cut is sound.
use Rattle.std.proofs.Common.{◌∙◌, ap, arith, ℕ, ◌%◌, List, Some}
use Rattle.equations.specs.laws.Words.{byte_masks}
use Rattle.model_syntax.specs.declared.expr.Scalar.TheVariants.{Word, Byte}
use Rattle.model_syntax.specs.declared.program.Param.{Param}
use Rattle.model_syntax.specs.Environment.{Env}
use Rattle.model_syntax.specs.Scope.{Scope}
use Rattle.sym_heap.specs.Context.{Context}
use Rattle.bed_syntax.specs.declared.operation.BOp.TheVariants as bop
use Rattle.bed_syntax.specs.declared.expression.BExpr.TheVariants as b
use Rattle.expr_rules.specs.declared.output.ExprOut.{ExprOut}
use Rattle.expr_rules.specs.Sound.{ExprDone, Yields}
use Rattle.expr_rules.specs.rules.Cut.{after}
use Rattle.expr_rules.proofs.Codes.{value_lit, value_bin, locals_lit, locals_bin}
use Rattle.expr_rules.proofs.Came.{Of, came_one}
use Rattle.expr_rules.proofs.Fresh.{fresh_done}

pub sound : (ps : List Param) (scope : Scope) (f : Env → ℕ) (before : Context) (p : ExprOut) (mid : Context)
    → ExprDone ps scope f Word before p mid → (at : ℕ)
    → Yields (ExprDone ps scope (λ env. f env % 256) Byte before) (after at p mid)
sound ps scope f before p mid d at =
    fresh_done (Of f Word p) ps scope before mid (came_one ps scope f Word before mid p d) (λ env. f env % 256) Byte at 255
    (b.Bin bop.And p.code (b.Lit 255)) (omega arith)
    (λ xs has. locals_bin xs bop.And p.code (b.Lit 255) (d.locals xs has) (locals_lit xs 255))
    (λ v env mem vars r. (
      value_bin mem vars bop.And p.code (b.Lit 255) (f env) 255 r.value (value_lit mem vars 255)
          ∙ ap Some (byte_masks (f env)),
      omega arith,
    ))
