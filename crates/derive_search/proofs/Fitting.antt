-- Rows that fit: what is chosen is legal at the expression, and its rule gives what was kept of it.
use Rattle.std.proofs.Common.{◌≡◌, refl, ℕ, true, false, ◌==◌, List, [], ◌∷◌, Option, Some, None, option_and_then, Result, Ok}
use Rattle.std.proofs.Common.{Err}
use Rattle.std.specs.Option.{option_or}
use Rattle.rup_base.specs.declared.refusal.Refusal.{Refusal}
use Rattle.model_syntax.specs.declared.expr.Expr.{Expr, Expr-F}
use Rattle.side_certs.specs.LinearForm.{LinearForm}
use Rattle.side_certs.specs.declared.certificate.Cert.{Cert}
use Rattle.sym_heap.specs.Context.{Context}
use Rattle.deriv_tree.specs.declared.rule.Rule as deriv
use Rattle.deriv_tree.specs.declared.tree.Step.{Step}
use Rattle.deriv_tree.specs.Shape.{is_expression, kids}
use Rattle.expr_rules.specs.declared.output.ExprOut.{ExprOut}
use Rattle.expr_rules.specs.Row.{fits, args_of, certs_of, is_rewrite}
use Rattle.expr_rules.specs.Words.{Rule, has_counts}
use Rattle.derive_search.specs.Rows.{Chosen, Candidate, kept, plainly, certificate, shown_by, certified, first}

-- a step without arguments
abbrev pub step : deriv.Rule → List Cert → Step
step rule certs = record { rule = rule; args = []; certs = certs }

-- a rule without arguments for the expression, with so many kids
pub record Legal (shape : Expr-F Expr) (n : ℕ) (rule : deriv.Rule) (certs : List Cert) : Type 0 where
  pub fit : fits rule shape ≡ true
  pub counts : has_counts (step rule certs) (args_of rule) (certs_of rule) ≡ true
  pub plain : is_rewrite rule ≡ false
  pub expression : is_expression rule ≡ true
  pub kids_many : (n == kids rule) ≡ true

-- what the rule gives after its kids
abbrev pub Last : Type 0
Last = deriv.Rule → List Cert → Rule ExprOut

abbrev pub Fits : Expr-F Expr → ℕ → Last → Context → Option (Chosen × Context) → Type 0
Fits shape n last c None = Unit {0}
Fits shape n last c (Some p) = Legal shape n p.0.rule p.0.certs × (last p.0.rule p.0.certs c ≡ Ok (p.0.out, p.1))

module _ (shape : Expr-F Expr) (n : ℕ) (last : Last) (c : Context) where
  pub fits_kept : (rule : deriv.Rule) (certs : List Cert) → Legal shape n rule certs → (r : Result (ExprOut × Context) Refusal)
      → last rule certs c ≡ r → Fits shape n last c (kept rule certs r)
  fits_kept rule certs is (Ok p) e = (is, e)
  fits_kept rule certs is (Err refusal) e = tt

  pub fits_plainly : (rule : deriv.Rule) → Legal shape n rule [] → Fits shape n last c (plainly rule (last rule []) c)
  fits_plainly rule is = fits_kept rule [] is (last rule [] c) refl

  fits_shown : (rule : deriv.Rule) → ((k : Cert) → Legal shape n rule (k ∷ [])) → (o : Option Cert)
      → Fits shape n last c (shown_by rule (last rule) o c)
  fits_shown rule is None = tt
  fits_shown rule is (Some k) = fits_kept rule (k ∷ []) (is k) (last rule (k ∷ []) c) refl

  pub fits_certified : (rule : deriv.Rule) (goal : Option LinearForm) → ((k : Cert) → Legal shape n rule (k ∷ []))
      → Fits shape n last c (certified rule goal (last rule) c)
  fits_certified rule goal is = fits_shown rule is (option_and_then (certificate c) goal)

  pub fits_or : (one two : Option (Chosen × Context)) → Fits shape n last c one → Fits shape n last c two
      → Fits shape n last c (option_or one two)
  fits_or None two a b = b
  fits_or (Some p) two a b = a

  pub fits_one : (t : Candidate) → Fits shape n last c (t c) → Fits shape n last c (first (t ∷ []) c)
  fits_one t a = fits_or (t c) None a tt

  pub fits_two : (t u : Candidate) → Fits shape n last c (t c) → Fits shape n last c (u c)
      → Fits shape n last c (first (t ∷ u ∷ []) c)
  fits_two t u a b = fits_or (t c) (first (u ∷ []) c) a (fits_one u b)
