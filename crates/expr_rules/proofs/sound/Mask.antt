-- e-mask is sound: bits of a word are at most the word and at most the mask.
use Rattle.std.proofs.Common.{arith, ℕ, ◌≤◌, List, bit_and}
use Rattle.std.proofs.lemmas.Int.{ints}
use Rattle.std.proofs.lemmas.Nat.{and_le_l, and_le_r}
use Rattle.side_certs.specs.LinearForm.{minus}
use Rattle.model_syntax.specs.declared.expr.Op.TheVariants as op
use Rattle.model_syntax.specs.declared.expr.Scalar.TheVariants.{Word}
use Rattle.model_syntax.specs.declared.program.Param.{Param}
use Rattle.model_syntax.specs.Environment.{Env}
use Rattle.model_syntax.specs.Operation.{apply}
use Rattle.model_syntax.specs.Scope.{Scope}
use Rattle.sym_heap.specs.Context.{Context}
use Rattle.bed_syntax.specs.declared.operation.BOp.TheVariants as bop
use Rattle.bed_syntax.specs.declared.expression.BExpr.{BExpr}
use Rattle.bed_syntax.specs.declared.expression.BExpr.TheVariants as b
use Rattle.expr_rules.specs.declared.output.ExprOut.{ExprOut}
use Rattle.expr_rules.specs.Words.{◌>>=◌, most, number_in, fresh, fact, give, plain}
use Rattle.expr_rules.specs.Sound.{ExprDone, Yields}
use Rattle.expr_rules.specs.rules.Mask.{after}
use Rattle.expr_rules.proofs.Below.{below_done}
use Rattle.expr_rules.proofs.Codes.{value_bin, locals_bin}
use Rattle.expr_rules.proofs.Kids.{Pair}
use Rattle.expr_rules.proofs.Sums.{NumberIn, number_in_is}
use Rattle.expr_rules.proofs.laws.Yields.{yields_found}

pub sound : (ps : List Param) (scope : Scope) (f g : Env → ℕ) (before : Context) (pq : ExprOut × ExprOut) (mid : Context)
    → Pair ps scope f g Word Word before pq mid → (at : ℕ)
    → Yields (ExprDone ps scope (λ env. apply op.And (f env) (g env)) Word before) (after at pq.0 pq.1 mid)
sound ps scope f g before pq mid k at =
    yields_found (ExprDone ps scope sem Word before) mid (number_in 0 most pq.1.form) at 4
    (λ n. fresh at n >>= (λ s. fact at (minus pq.0.form s) >>= (λ _. give (plain code s))))
    (λ n is.
    let number : NumberIn 0 most n pq.1.form = number_in_is 0 most n pq.1.form is in
    below_done ps scope f g before pq mid k sem at n code
    (λ xs has. locals_bin xs bop.And pq.0.code pq.1.code (k.one.locals xs has) (k.two.locals xs has))
    (λ v env mem vars r.
    let less : bit_and (f env) (g env) ≤ g env = and_le_r (f env) (g env) in
    let form = r.1.form in
    let value_is = number.value_is v in
    record {
      value = value_bin mem vars bop.And pq.0.code pq.1.code (f env) (g env) r.0.value r.1.value;
      small = omega (arith, ints, less, form, value_is);
      less = and_le_l (f env) (g env);
    }))
  where
    sem : Env → ℕ
    sem env = apply op.And (f env) (g env)

    code : BExpr
    code = b.Bin bop.And pq.0.code pq.1.code
