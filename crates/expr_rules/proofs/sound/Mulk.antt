-- e-mulk is sound: the product is a word, so that nothing wraps. So is each other operation that gives a multiple.
use Rattle.std.proofs.Common.{◌≡◌, refl, sym, ◌∙◌, ap, arith, ℕ, ◌*◌, ◌%◌, ◌^◌, ◌≤◌, List, [], ◌∷◌, length, Some, ℤ, pos, neg_ℤ}
use Rattle.side_certs.specs.declared.certificate.Cert.{Cert}
use Rattle.side_certs.specs.LinearForm.{LinearForm, times, value_at}
use Rattle.model_syntax.specs.declared.expr.Op.TheVariants as op
use Rattle.model_syntax.specs.declared.expr.Scalar.TheVariants.{Word}
use Rattle.model_syntax.specs.declared.program.Param.{Param}
use Rattle.model_syntax.specs.Environment.{Env}
use Rattle.model_syntax.specs.Operation.{apply}
use Rattle.model_syntax.specs.Scope.{Scope}
use Rattle.sym_heap.specs.Context.{Context}
use Rattle.sym_heap.proofs.laws.Extending.{known_times}
use Rattle.bed_syntax.specs.Operation as bed
use Rattle.bed_syntax.specs.declared.operation.BOp.{BOp}
use Rattle.bed_syntax.specs.declared.operation.BOp.TheVariants as bop
use Rattle.bed_syntax.specs.declared.expression.BExpr.{BExpr}
use Rattle.bed_syntax.specs.declared.expression.BExpr.TheVariants as b
use Rattle.expr_rules.specs.declared.output.ExprOut.{ExprOut}
use Rattle.expr_rules.specs.Words.{◌>>=◌, most, number_of, sum_of, made, give, plain}
use Rattle.expr_rules.specs.Sound.{ExprDone, Yields}
use Rattle.expr_rules.specs.rules.Mulk.{multiple, after}
use Rattle.expr_rules.proofs.Codes.{value_bin, locals_bin}
use Rattle.expr_rules.proofs.Came.{Of, And, came_done}
use Rattle.expr_rules.proofs.Fresh.{plain_kid, plain_right}
use Rattle.expr_rules.proofs.Kids.{Pair}
use Rattle.expr_rules.proofs.Sums.{number_value}
use Rattle.expr_rules.proofs.Times.{multiple_small, multiple_value}
use Rattle.expr_rules.proofs.laws.Yields.{yields_found, yields_shown, yields_made}

-- at these two words the operation multiplies the first one, up to wrapping
pub record Multiplies (factor : ℤ) (op : BOp) (m n result : ℕ) : Type 0 where
  pub number : ℕ
  pub factor_is : factor ≡ pos number
  pub wraps : result ≡ m * number % 2 ^ 32
  pub operation_is : bed.apply op m n ≡ result

module _ (ps : List Param) (scope : Scope) (f g : Env → ℕ) (before : Context) (pq : ExprOut × ExprOut) (mid : Context)
    (k : Pair ps scope f g Word Word before pq mid) (certs : List Cert) (at : ℕ) where
  pub multiple_sound : (factor : ℤ) (op : BOp) (sem : Env → ℕ)
      → ((v : ℕ → ℕ) (env : Env) → value_at v pq.1.form ≡ pos (g env) → Multiplies factor op (f env) (g env) (sem env))
      → Yields (ExprDone ps scope sem Word before) (multiple certs at factor op pq.0 pq.1 mid)
  multiple_sound factor op sem is =
      yields_shown (ExprDone ps scope sem Word before) mid at certs goal (λ _. made at form >>= (λ h. give (plain code h)))
      (λ closes. yields_made (ExprDone ps scope sem Word before) mid at form (λ h. give (plain code h))
      (came_done (And (Of f Word pq.0) (Of g Word pq.1)) ps scope before mid k.came sem Word (plain code form)
      (plain_kid before mid code form (known_times (length mid.tops) factor pq.0.form k.one.known)
      (λ xs has. locals_bin xs op pq.0.code pq.1.code (k.one.locals xs has) (k.two.locals xs has)))
      (λ call v env mem vars fits r.
      let here : Multiplies factor op (f env) (g env) (sem env) = is v env r.1.form in
      let small : here.number * f env ≤ 4294967295 =
      multiple_small v pq.0.form (f env) here.number r.0.form factor here.factor_is (closes v fits.holds) in
      let value_is : value_at v form
      ≡ pos (here.number * f env) = multiple_value v pq.0.form (f env) here.number r.0.form factor here.factor_is in
      let wraps = here.wraps in
      let whole : sem env ≡ here.number * f env = omega (arith, small, wraps) in
      plain_right (sem env) Word code form v mem vars
      (value_bin mem vars op pq.0.code pq.1.code (f env) (g env) r.0.value r.1.value ∙ ap Some here.operation_is)
      (omega (arith, small, whole)) (value_is ∙ ap pos (sym whole)))))
    where
      goal : LinearForm
      goal = sum_of (pos most) ((neg_ℤ factor, pq.0.form) ∷ [])

      form : LinearForm
      form = times factor pq.0.form

      code : BExpr
      code = b.Bin op pq.0.code pq.1.code

  pub sound : Yields (ExprDone ps scope (λ env. apply op.Mul (f env) (g env)) Word before) (after certs at pq.0 pq.1 mid)
  sound =
      yields_found (ExprDone ps scope sem Word before) mid (number_of pq.1.form) at 4
      (λ factor. multiple certs at factor bop.Mul pq.0 pq.1)
      (λ factor is. multiple_sound factor bop.Mul sem
      (λ v env form. record {
        number = g env;
        factor_is = sym (number_value pq.1.form factor is v) ∙ form;
        wraps = refl;
        operation_is = refl;
      }))
    where
      sem : Env → ℕ
      sem env = apply op.Mul (f env) (g env)
