-- The rows of products and shifts, where each of their conditions holds.
use Rattle.std.proofs.Common.{◌≡◌, refl, ap, ◌∙◌, ℕ, ℤ, pos, true, [], ◌∷◌, Option, Some, option_and_then, Ok}
use Rattle.model_syntax.specs.declared.expr.Op.TheVariants as op
use Rattle.side_certs.specs.LinearForm.{LinearForm, times, within}
use Rattle.side_certs.specs.Closes.{closes}
use Rattle.side_certs.specs.declared.certificate.Cert.{Cert}
use Rattle.sym_heap.specs.Context.{Context}
use Rattle.deriv_tree.specs.declared.rule.Rule.TheVariants.{EMulk, EShift}
use Rattle.bed_syntax.specs.declared.expression.BExpr.TheVariants as b
use Rattle.bed_syntax.specs.declared.operation.BOp.TheVariants as bop
use Rattle.expr_rules.specs.declared.output.ExprOut.{ExprOut}
use Rattle.expr_rules.specs.Words.{number_of, plain}
use Rattle.expr_rules.specs.rules.Mulk as mulk
use Rattle.expr_rules.specs.rules.Shift as shift
use Rattle.derive_search.specs.Offers.{offered}
use Rattle.derive_search.specs.Rows.{special, multiple_goal, product_goal, shift_goal, certificate, shown_by, kept}

module _ (at : ℕ) (p q : ExprOut) (c : Context) (goal form : LinearForm) (cert : Cert) where
  pub product_fits : (k : ℤ) → number_of q.form ≡ Some k → multiple_goal p k ≡ Some goal → certificate c goal ≡ Some cert
      → closes c.facts c.tops goal cert ≡ true → within (times k p.form) ≡ Some form
      → special at op.Mul p q c ≡ Some (offered op.Mul p q (record { rule = EMulk; certs = cert ∷ []; form = form }) c)
  product_fits k number goal_is cert_is closed form_is =
      let row : mulk.after (cert ∷ []) at p q c ≡ Ok (plain (b.Bin bop.Mul p.code q.code) form, c) =
      rw (number, goal_is, closed, form_is) refl in
      let first : option_and_then (certificate c) (product_goal p q) ≡ Some cert = rw (number, goal_is) cert_is in
      ap (λ (o : Option Cert). shown_by EMulk (λ certs. mulk.after certs at p q) o c) first ∙ ap (kept EMulk (cert ∷ [])) row

  pub shift_fits : (n : ℕ) → shift.power q.form ≡ Some n → multiple_goal p (pos n) ≡ Some goal → certificate c goal ≡ Some cert
      → closes c.facts c.tops goal cert ≡ true → within (times (pos n) p.form) ≡ Some form
      → special at op.Shl p q c ≡ Some (offered op.Shl p q (record { rule = EShift; certs = cert ∷ []; form = form }) c)
  shift_fits n number goal_is cert_is closed form_is =
      let row : shift.after (cert ∷ []) at p q c ≡ Ok (plain (b.Bin bop.Slu p.code q.code) form, c) =
      rw (number, goal_is, closed, form_is) refl in
      let first : option_and_then (certificate c) (shift_goal p q) ≡ Some cert = rw (number, goal_is) cert_is in
      ap (λ (o : Option Cert). shown_by EShift (λ certs. shift.after certs at p q) o c) first ∙ ap (kept EShift (cert ∷ [])) row
