-- e-var is sound.
use Rattle.std.proofs.Common.{◌≡◌, refl, sym, ◌∙◌, ap, subst, ℕ, ◌≤◌, List, Option, Some, None, pos}
use Rattle.model_syntax.specs.declared.expr.Scalar.{Scalar}
use Rattle.model_syntax.specs.declared.program.Param.{Param}
use Rattle.model_syntax.specs.declared.scope.NameType.TheVariants.{Scalar as One}
use Rattle.model_syntax.specs.Environment.{value_of, number}
use Rattle.model_syntax.specs.Names.{Name}
use Rattle.model_syntax.specs.Scope.{Scope, look_up}
use Rattle.model_syntax.proofs.laws.Bindings.{same_is}
use Rattle.sym_heap.specs.declared.parts.Held.{Held}
use Rattle.sym_heap.specs.Context.{Context, scalar, is_scalar, top_of}
use Rattle.sym_heap.specs.Fits.{ScalarFits}
use Rattle.sym_heap.proofs.laws.Extending.{Standing, standing}
use Rattle.bed_syntax.specs.declared.expression.BExpr.TheVariants as b
use Rattle.bed_meaning.specs.Locals.{local_at}
use Rattle.expr_rules.specs.Words.{plain}
use Rattle.expr_rules.specs.Sound.{ExprDone, Yields}
use Rattle.expr_rules.specs.rules.Var.{after}
use Rattle.expr_rules.proofs.Codes.{value_var, locals_var}
use Rattle.expr_rules.proofs.Came.{Nothing, Came, came_done}
use Rattle.expr_rules.proofs.Fresh.{plain_kid, plain_right}

pub sound : (ps : List Param) (scope : Scope) (c : Context) → Came Nothing ps scope c c → (at : ℕ) (x : Name) (t : Scalar)
    → look_up scope x ≡ Some (One t)
    → Yields (ExprDone ps scope (λ env. number (value_of env x)) t c) (after at x c)
sound ps scope c came at x t typed = by (scalar c x) refl where
  by : (o : Option Held) → scalar c x ≡ o → Yields (ExprDone ps scope (λ env. number (value_of env x)) t c) (after at x c)
  by None is = rw is tt
  by (Some h) is =
      let s : Standing (is_scalar x) c.scalars h = standing (is_scalar x) c.scalars h is in
      let name : h.name ≡ x = same_is h.name x s.passes in
      let stands : look_up scope x ≡ Some (One h.kind) = ap (look_up scope) (sym name) ∙ came.scoped.scalars s.place h s.at in
      let both : Some (One h.kind) ≡ Some (One t) = sym stands ∙ typed in
      let kind : h.kind ≡ t = cc in
      rw is
      (came_done Nothing ps scope c c came (λ env. number (value_of env x)) t (plain (b.Var h.local) h.form)
      (plain_kid c c (b.Var h.local) h.form (came.consistent.scalars_known s.place h s.at)
      (λ xs has. locals_var xs h.local (has.scalars s.place h s.at)))
      (λ call v env mem vars fits r.
      let here : ScalarFits v h (value_of env x) (local_at vars) = fits.scalars x h is in
      let value_is : number (value_of env x) ≡ here.number = ap number here.value in
      plain_right (number (value_of env x)) t (b.Var h.local) h.form v mem vars
      (value_var mem vars h.local ∙ here.local ∙ ap Some (sym value_is))
      (subst (λ (k : Scalar). number (value_of env x) ≤ top_of k) kind
      (subst (λ (n : ℕ). n ≤ top_of h.kind) (sym value_is) here.kind))
      (here.form ∙ ap pos (sym value_is))))
