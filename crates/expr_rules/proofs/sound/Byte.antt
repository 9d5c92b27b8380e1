-- e-byte is sound: a word that is at most 255 is its lowest byte.
use Rattle.std.proofs.Common.{◌≡◌, ◌∙◌, sym, ap, arith, ℕ, ◌%◌, ◌≤◌, List, [], ◌∷◌, Some, pos, negsuc, ◌≤ℤ◌}
use Rattle.std.proofs.lemmas.Int.{ints}
use Rattle.side_certs.specs.declared.certificate.Cert.{Cert}
use Rattle.side_certs.specs.LinearForm.{LinearForm, value_at}
use Rattle.model_syntax.specs.declared.expr.Scalar.TheVariants.{Word, Byte}
use Rattle.model_syntax.specs.declared.program.Param.{Param}
use Rattle.model_syntax.specs.Environment.{Env}
use Rattle.model_syntax.specs.Scope.{Scope}
use Rattle.sym_heap.specs.Context.{Context}
use Rattle.expr_rules.specs.declared.output.ExprOut.{ExprOut}
use Rattle.expr_rules.specs.Words.{sum_of, give, plain}
use Rattle.expr_rules.specs.Sound.{ExprDone, Yields}
use Rattle.expr_rules.specs.rules.Byte.{after}
use Rattle.expr_rules.proofs.Came.{Of, came_one, came_done}
use Rattle.expr_rules.proofs.Fresh.{plain_kid, plain_right}
use Rattle.expr_rules.proofs.Sums.{value_sum}
use Rattle.expr_rules.proofs.laws.Yields.{yields_shown}

pub sound : (ps : List Param) (scope : Scope) (f : Env → ℕ) (before : Context) (p : ExprOut) (mid : Context)
    → ExprDone ps scope f Word before p mid → (certs : List Cert) (at : ℕ)
    → Yields (ExprDone ps scope (λ env. f env % 256) Byte before) (after certs at p mid)
sound ps scope f before p mid d certs at =
    yields_shown (ExprDone ps scope sem Byte before) mid at certs goal (λ _. give (plain p.code p.form))
    (λ closes. came_done (Of f Word p) ps scope before mid (came_one ps scope f Word before mid p d) sem Byte
    (plain p.code p.form)
    (plain_kid before mid p.code p.form d.known d.locals)
    (λ call v env mem vars fits r.
    let shown : pos 0 ≤ℤ value_at v goal = closes v fits.holds in
    let value_is = value_sum v (pos 255) ((negsuc 0, p.form) ∷ []) in
    let one = r.form in
    let small : f env ≤ 255 = omega (arith, ints, shown, value_is, one) in
    let same : f env % 256 ≡ f env = omega (arith, small) in
    plain_right (sem env) Byte p.code p.form v mem vars (r.value ∙ ap Some (sym same)) (omega (arith, small, same))
    (r.form ∙ ap pos (sym same))))
  where
    sem : Env → ℕ
    sem env = f env % 256

    goal : LinearForm
    goal = sum_of (pos 255) ((negsuc 0, p.form) ∷ [])
