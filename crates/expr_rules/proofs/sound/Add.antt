-- e-add is sound: the sum is a word, so that nothing wraps.
use Rattle.std.proofs.Common.{arith, ℕ, ◌+◌, ◌≤◌, List, [], ◌∷◌, length, pos, negsuc, ◌≤ℤ◌}
use Rattle.std.proofs.lemmas.Int.{ints}
use Rattle.side_certs.specs.declared.certificate.Cert.{Cert}
use Rattle.side_certs.specs.LinearForm.{LinearForm, plus, value_at}
use Rattle.side_certs.proofs.laws.Values.{value_plus}
use Rattle.model_syntax.specs.declared.expr.Op.TheVariants as op
use Rattle.model_syntax.specs.declared.expr.Scalar.TheVariants.{Word}
use Rattle.model_syntax.specs.declared.program.Param.{Param}
use Rattle.model_syntax.specs.Environment.{Env}
use Rattle.model_syntax.specs.Operation.{apply}
use Rattle.model_syntax.specs.Scope.{Scope}
use Rattle.sym_heap.specs.Context.{Context}
use Rattle.sym_heap.proofs.laws.Extending.{known_plus}
use Rattle.bed_syntax.specs.declared.operation.BOp.TheVariants as bop
use Rattle.bed_syntax.specs.declared.expression.BExpr.{BExpr}
use Rattle.bed_syntax.specs.declared.expression.BExpr.TheVariants as b
use Rattle.expr_rules.specs.declared.output.ExprOut.{ExprOut}
use Rattle.expr_rules.specs.Words.{◌>>=◌, most, sum_of, made, give, plain}
use Rattle.expr_rules.specs.Sound.{ExprDone, Yields}
use Rattle.expr_rules.specs.rules.Add.{after}
use Rattle.expr_rules.proofs.Codes.{value_bin, locals_bin}
use Rattle.expr_rules.proofs.Came.{Of, And, came_done}
use Rattle.expr_rules.proofs.Fresh.{plain_kid, plain_right}
use Rattle.expr_rules.proofs.Kids.{Pair}
use Rattle.expr_rules.proofs.Sums.{value_sum}
use Rattle.expr_rules.proofs.laws.Yields.{yields_shown, yields_made}

pub sound : (ps : List Param) (scope : Scope) (f g : Env → ℕ) (before : Context) (pq : ExprOut × ExprOut) (mid : Context)
    → Pair ps scope f g Word Word before pq mid → (certs : List Cert) (at : ℕ)
    → Yields (ExprDone ps scope (λ env. apply op.Add (f env) (g env)) Word before) (after certs at pq.0 pq.1 mid)
sound ps scope f g before pq mid k certs at =
    yields_shown (ExprDone ps scope sem Word before) mid at certs goal (λ _. made at form >>= (λ h. give (plain code h)))
    (λ closes. yields_made (ExprDone ps scope sem Word before) mid at form (λ h. give (plain code h))
    (came_done (And (Of f Word pq.0) (Of g Word pq.1)) ps scope before mid k.came sem Word (plain code form)
    (plain_kid before mid code form (known_plus (length mid.tops) pq.0.form pq.1.form k.one.known k.two.known)
    (λ xs has. locals_bin xs bop.Add pq.0.code pq.1.code (k.one.locals xs has) (k.two.locals xs has)))
    (λ call v env mem vars fits r.
    let shown : pos 0 ≤ℤ value_at v goal = closes v fits.holds in
    let value_is = value_sum v (pos most) ((negsuc 0, pq.0.form) ∷ (negsuc 0, pq.1.form) ∷ []) in
    let one = r.0.form in
    let two = r.1.form in
    let small : f env + g env ≤ 4294967295 = omega (arith, ints, shown, value_is, one, two) in
    let whole = value_plus v pq.0.form pq.1.form in
    plain_right (sem env) Word code form v mem vars
    (value_bin mem vars bop.Add pq.0.code pq.1.code (f env) (g env) r.0.value r.1.value) (omega (arith, small))
    (omega (arith, ints, whole, one, two, small)))))
  where
    sem : Env → ℕ
    sem env = apply op.Add (f env) (g env)

    goal : LinearForm
    goal = sum_of (pos most) ((negsuc 0, pq.0.form) ∷ (negsuc 0, pq.1.form) ∷ [])

    form : LinearForm
    form = plus pq.0.form pq.1.form

    code : BExpr
    code = b.Bin bop.Add pq.0.code pq.1.code
