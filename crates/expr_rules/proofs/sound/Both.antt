-- e-both is sound.
use Rattle.std.proofs.Common.{sym, ◌∙◌, ap, ℕ, ◌&&◌, List, [], ◌++◌, length, Some, pos, ◌≤ℤ◌}
use Rattle.side_certs.specs.LinearForm.{LinearForm, symbol, value_at}
use Rattle.side_certs.proofs.laws.Values.{value_symbol}
use Rattle.model_syntax.specs.declared.expr.Scalar.TheVariants.{Flag}
use Rattle.model_syntax.specs.declared.program.Param.{Param}
use Rattle.model_syntax.specs.Environment.{Env}
use Rattle.model_syntax.specs.Scope.{Scope}
use Rattle.model_syntax.specs.Value.{flag, is_true}
use Rattle.model_syntax.proofs.laws.Arrays.{and_parts}
use Rattle.sym_heap.specs.Context.{Context, with_top}
use Rattle.sym_heap.specs.Fits.{Known}
use Rattle.bed_syntax.specs.declared.operation.BOp.TheVariants as bop
use Rattle.bed_syntax.specs.declared.expression.BExpr.TheVariants as b
use Rattle.expr_rules.specs.declared.output.ExprOut.{ExprOut}
use Rattle.expr_rules.specs.Words.{give}
use Rattle.expr_rules.specs.Sound.{ExprDone, Yields}
use Rattle.expr_rules.specs.rules.Both.{after}
use Rattle.expr_rules.proofs.Codes.{value_bin, locals_bin}
use Rattle.expr_rules.proofs.Came.{Kid, Of, And, Fact, WithNumber, kid_more, extends_top, came_fresh, came_done}
use Rattle.expr_rules.proofs.Flags.{and_flags, flag_small, flag_true, each_joined}
use Rattle.expr_rules.proofs.Fresh.{next_known, none_known, none_hold}
use Rattle.expr_rules.proofs.Kids.{Pair}
use Rattle.expr_rules.proofs.laws.Yields.{yields_fresh}

pub sound : (ps : List Param) (scope : Scope) (f g : Env → ℕ) (before : Context) (pq : ExprOut × ExprOut) (mid : Context)
    → Pair ps scope f g Flag Flag before pq mid → (at : ℕ)
    → Yields (ExprDone ps scope (λ env. flag (is_true (f env) && is_true (g env))) Flag before) (after at pq.0 pq.1 mid)
sound ps scope f g before pq mid k at =
    yields_fresh (ExprDone ps scope sem Flag before) mid at 1 (λ s. give (out s))
    (came_done (WithNumber R ps scope before mid k.came sem) ps scope before (with_top 1 mid)
    (came_fresh R ps scope before mid k.came 1 sem (λ v env mem vars r. flag_small (is_true (f env) && is_true (g env)))) sem Flag
    (out s)
    (record {
      known = next_known mid.tops 1;
      yes_known = each_joined (Known (length (with_top 1 mid).tops)) pq.0.yes pq.1.yes one.yes_known two.yes_known;
      no_known = none_known (length (with_top 1 mid).tops);
      locals = λ xs has. locals_bin xs bop.And pq.0.code pq.1.code (k.one.locals xs has) (k.two.locals xs has);
    })
    (λ call v env mem vars fits r. record {
      value = value_bin mem vars bop.And pq.0.code pq.1.code (f env) (g env) r.0.0.value r.0.1.value
          ∙ ap Some (and_flags (f env) (g env) r.0.0.small r.0.1.small);
      small = flag_small (is_true (f env) && is_true (g env));
      form = value_symbol v (length mid.tops) ∙ ap pos r.1;
      yes = λ e. (let sides = and_parts (is_true (f env)) (is_true (g env))
          (sym (flag_true (is_true (f env) && is_true (g env))) ∙ e) in
          each_joined (λ h. pos 0 ≤ℤ value_at v h) pq.0.yes pq.1.yes (r.0.0.yes sides.0) (r.0.1.yes sides.1));
      no = λ e. none_hold v;
    }))
  where
    sem : Env → ℕ
    sem env = flag (is_true (f env) && is_true (g env))

    s : LinearForm
    s = symbol (length mid.tops)

    R : Fact
    R = And (Of f Flag pq.0) (Of g Flag pq.1)

    one : Kid before (with_top 1 mid) pq.0
    one = kid_more before mid (with_top 1 mid) pq.0 (extends_top mid 1) k.one

    two : Kid before (with_top 1 mid) pq.1
    two = kid_more before mid (with_top 1 mid) pq.1 (extends_top mid 1) k.two

    out : LinearForm → ExprOut
    out h = record { code = b.Bin bop.And pq.0.code pq.1.code; form = h; yes = pq.0.yes ++ pq.1.yes; no = [] }
