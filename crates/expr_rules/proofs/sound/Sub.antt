-- e-sub is sound: the difference is not below 0, so that nothing wraps.
use Rattle.std.proofs.Common.{arith, ℕ, ◌≤◌, List, length, pos, ◌≤ℤ◌}
use Rattle.std.proofs.lemmas.Int.{ints}
use Rattle.side_certs.specs.declared.certificate.Cert.{Cert}
use Rattle.side_certs.specs.LinearForm.{LinearForm, minus, value_at}
use Rattle.side_certs.proofs.laws.Values.{value_minus}
use Rattle.model_syntax.specs.declared.expr.Op.TheVariants as op
use Rattle.model_syntax.specs.declared.expr.Scalar.TheVariants.{Word}
use Rattle.model_syntax.specs.declared.program.Param.{Param}
use Rattle.model_syntax.specs.Environment.{Env}
use Rattle.model_syntax.specs.Operation.{apply}
use Rattle.model_syntax.specs.Scope.{Scope}
use Rattle.sym_heap.specs.Context.{Context}
use Rattle.bed_syntax.specs.declared.operation.BOp.TheVariants as bop
use Rattle.bed_syntax.specs.declared.expression.BExpr.{BExpr}
use Rattle.bed_syntax.specs.declared.expression.BExpr.TheVariants as b
use Rattle.expr_rules.specs.declared.output.ExprOut.{ExprOut}
use Rattle.expr_rules.specs.Words.{◌>>=◌, made, give, plain}
use Rattle.expr_rules.specs.Sound.{ExprDone, Yields}
use Rattle.expr_rules.specs.rules.Sub.{after}
use Rattle.expr_rules.proofs.Codes.{value_bin, locals_bin}
use Rattle.expr_rules.proofs.Came.{Of, And, came_done}
use Rattle.expr_rules.proofs.Fresh.{plain_kid, plain_right}
use Rattle.expr_rules.proofs.Kids.{Pair}
use Rattle.expr_rules.proofs.Sums.{known_minus}
use Rattle.expr_rules.proofs.laws.Yields.{yields_shown, yields_made}

pub sound : (ps : List Param) (scope : Scope) (f g : Env → ℕ) (before : Context) (pq : ExprOut × ExprOut) (mid : Context)
    → Pair ps scope f g Word Word before pq mid → (certs : List Cert) (at : ℕ)
    → Yields (ExprDone ps scope (λ env. apply op.Sub (f env) (g env)) Word before) (after certs at pq.0 pq.1 mid)
sound ps scope f g before pq mid k certs at =
    yields_shown (ExprDone ps scope sem Word before) mid at certs form (λ _. made at form >>= (λ h. give (plain code h)))
    (λ closes. yields_made (ExprDone ps scope sem Word before) mid at form (λ h. give (plain code h))
    (came_done (And (Of f Word pq.0) (Of g Word pq.1)) ps scope before mid k.came sem Word (plain code form)
    (plain_kid before mid code form (known_minus (length mid.tops) pq.0.form pq.1.form k.one.known k.two.known)
    (λ xs has. locals_bin xs bop.Sub pq.0.code pq.1.code (k.one.locals xs has) (k.two.locals xs has)))
    (λ call v env mem vars fits r.
    let shown : pos 0 ≤ℤ value_at v form = closes v fits.holds in
    let one = r.0.form in
    let two = r.1.form in
    let whole = value_minus v pq.0.form pq.1.form in
    let less : g env ≤ f env = omega (arith, ints, shown, whole, one, two) in
    let small = r.0.small in
    plain_right (sem env) Word code form v mem vars
    (value_bin mem vars bop.Sub pq.0.code pq.1.code (f env) (g env) r.0.value r.1.value) (omega (arith, small, less))
    (omega (arith, ints, whole, one, two, small, less)))))
  where
    sem : Env → ℕ
    sem env = apply op.Sub (f env) (g env)

    form : LinearForm
    form = minus pq.0.form pq.1.form

    code : BExpr
    code = b.Bin bop.Sub pq.0.code pq.1.code
