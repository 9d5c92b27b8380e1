-- e-remk is sound: a remainder is at most the dividend, and less than a divisor that is not 0.
use Rattle.std.proofs.Common.{◌≡◌, arith, ℕ, ◌-◌, ◌≤◌, List}
use Rattle.std.proofs.lemmas.Int.{ints}
use Rattle.side_certs.specs.LinearForm.{minus}
use Rattle.model_syntax.specs.declared.expr.Op.TheVariants as op
use Rattle.model_syntax.specs.declared.expr.Scalar.TheVariants.{Word}
use Rattle.model_syntax.specs.declared.program.Param.{Param}
use Rattle.model_syntax.specs.Environment.{Env}
use Rattle.model_syntax.specs.Operation.{apply}
use Rattle.model_syntax.specs.Scope.{Scope}
use Rattle.sym_heap.specs.Context.{Context}
use Rattle.bed_syntax.specs.declared.operation.BOp.TheVariants as bop
use Rattle.bed_syntax.specs.declared.expression.BExpr.{BExpr}
use Rattle.bed_syntax.specs.declared.expression.BExpr.TheVariants as b
use Rattle.expr_rules.specs.declared.output.ExprOut.{ExprOut}
use Rattle.expr_rules.specs.Words.{◌>>=◌, most, number_in, fresh, fact, give, plain}
use Rattle.expr_rules.specs.Sound.{ExprDone, Yields}
use Rattle.expr_rules.specs.rules.Remk.{after}
use Rattle.expr_rules.proofs.Below.{below_done}
use Rattle.expr_rules.proofs.Codes.{value_bin, locals_bin}
use Rattle.expr_rules.proofs.Division.{remainder_less, remainder_most}
use Rattle.expr_rules.proofs.Kids.{Pair}
use Rattle.expr_rules.proofs.Sums.{NumberIn, number_in_is}
use Rattle.expr_rules.proofs.laws.Yields.{yields_found}

pub sound : (ps : List Param) (scope : Scope) (f g : Env → ℕ) (before : Context) (pq : ExprOut × ExprOut) (mid : Context)
    → Pair ps scope f g Word Word before pq mid → (at : ℕ)
    → Yields (ExprDone ps scope (λ env. apply op.Remu (f env) (g env)) Word before) (after at pq.0 pq.1 mid)
sound ps scope f g before pq mid k at =
    yields_found (ExprDone ps scope sem Word before) mid (number_in 1 most pq.1.form) at 4
    (λ n. fresh at (n - 1) >>= (λ s. fact at (minus pq.0.form s) >>= (λ _. give (plain code s))))
    (λ n is.
    let number : NumberIn 1 most n pq.1.form = number_in_is 1 most n pq.1.form is in
    below_done ps scope f g before pq mid k sem at (n - 1) code
    (λ xs has. locals_bin xs bop.Remu pq.0.code pq.1.code (k.one.locals xs has) (k.two.locals xs has))
    (λ v env mem vars r.
    let form = r.1.form in
    let value_is = number.value_is v in
    let least = number.least in
    let same : g env ≡ n = omega (arith, ints, form, value_is) in
    let some : 1 ≤ g env = omega (arith, same, least) in
    let less = remainder_less (f env) (g env) some in
    record {
      value = value_bin mem vars bop.Remu pq.0.code pq.1.code (f env) (g env) r.0.value r.1.value;
      small = omega (arith, less, same);
      less = remainder_most (f env) (g env) some;
    }))
  where
    sem : Env → ℕ
    sem env = apply op.Remu (f env) (g env)

    code : BExpr
    code = b.Bin bop.Remu pq.0.code pq.1.code
