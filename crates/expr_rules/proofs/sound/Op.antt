-- e-op is sound.
use Rattle.std.proofs.Common.{◌∙◌, ap, arith, ℕ, ◌≤◌, List, Some}
use Rattle.std.proofs.lemmas.Bool.{leb-true, le-leb}
use Rattle.model_syntax.specs.declared.expr.Op.{Op}
use Rattle.model_syntax.specs.declared.expr.Scalar.TheVariants.{Word}
use Rattle.model_syntax.specs.declared.program.Param.{Param}
use Rattle.model_syntax.specs.Environment.{Env}
use Rattle.model_syntax.specs.Operation.{apply}
use Rattle.model_syntax.specs.Scope.{Scope}
use Rattle.model_syntax.proofs.laws.Numbers.{apply_word}
use Rattle.sym_heap.specs.Context.{Context}
use Rattle.bed_syntax.specs.declared.expression.BExpr.TheVariants as b
use Rattle.expr_rules.specs.declared.output.ExprOut.{ExprOut}
use Rattle.expr_rules.specs.Operations.{code_of}
use Rattle.expr_rules.specs.Words.{most}
use Rattle.expr_rules.specs.Sound.{ExprDone, Yields}
use Rattle.expr_rules.specs.rules.Op.{after}
use Rattle.expr_rules.proofs.Codes.{value_bin, locals_bin, same_operation}
use Rattle.expr_rules.proofs.Came.{Of, And}
use Rattle.expr_rules.proofs.Fresh.{fresh_done}
use Rattle.expr_rules.proofs.Kids.{Pair}

apply_small : (o : Op) (m n : ℕ) → m ≤ 4294967295 → n ≤ 4294967295 → apply o m n ≤ 4294967295
apply_small o m n one two = leb-true _ _ (apply_word o m n (le-leb _ _ one) (le-leb _ _ two))

pub sound : (ps : List Param) (scope : Scope) (f g : Env → ℕ) (before : Context) (pq : ExprOut × ExprOut) (mid : Context)
    → Pair ps scope f g Word Word before pq mid → (at : ℕ) (o : Op)
    → Yields (ExprDone ps scope (λ env. apply o (f env) (g env)) Word before) (after at o pq.0 pq.1 mid)
sound ps scope f g before pq mid k at o =
    fresh_done (And (Of f Word pq.0) (Of g Word pq.1)) ps scope before mid k.came (λ env. apply o (f env) (g env)) Word at most
    (b.Bin (code_of o) pq.0.code pq.1.code) (omega arith)
    (λ xs has. locals_bin xs (code_of o) pq.0.code pq.1.code (k.one.locals xs has) (k.two.locals xs has))
    (λ v env mem vars r. (
      value_bin mem vars (code_of o) pq.0.code pq.1.code (f env) (g env) r.0.value r.1.value
          ∙ ap Some (same_operation o (f env) (g env)),
      apply_small o (f env) (g env) r.0.small r.1.small,
    ))
