-- e-not is sound: the facts of the flag that is true are those of the other one where it is false.
use Rattle.std.proofs.Common.{◌≡◌, refl, ◌∙◌, ap, arith, ℕ, zero, suc, ◌-◌, ◌≤◌, nat_eq, true, false, not, List, [], ◌∷◌, length}
use Rattle.std.proofs.Common.{Some, pos, negsuc}
use Rattle.std.proofs.lemmas.Int.{ints}
use Rattle.side_certs.specs.LinearForm.{LinearForm}
use Rattle.model_syntax.specs.declared.expr.Scalar.TheVariants.{Flag}
use Rattle.model_syntax.specs.declared.program.Param.{Param}
use Rattle.model_syntax.specs.Environment.{Env}
use Rattle.model_syntax.specs.Scope.{Scope}
use Rattle.model_syntax.specs.Value.{flag, is_true}
use Rattle.sym_heap.specs.Context.{Context}
use Rattle.bed_syntax.specs.Operation as bed
use Rattle.bed_syntax.specs.declared.operation.BOp.TheVariants as bop
use Rattle.bed_syntax.specs.declared.expression.BExpr.TheVariants as b
use Rattle.expr_rules.specs.declared.output.ExprOut.{ExprOut}
use Rattle.expr_rules.specs.Words.{sum_of, give}
use Rattle.expr_rules.specs.Sound.{ExprDone, Yields}
use Rattle.expr_rules.specs.rules.Not.{after}
use Rattle.expr_rules.proofs.Codes.{value_lit, value_bin, locals_lit, locals_bin}
use Rattle.expr_rules.proofs.Came.{Of, came_one, came_done}
use Rattle.expr_rules.proofs.Sums.{value_sum, known_less}
use Rattle.expr_rules.proofs.laws.Yields.{yields_made}

-- a flag and the other one
record Other (n : ℕ) : Type 0 where
  pub code : bed.flag (nat_eq n 0) ≡ flag (not (is_true n))
  pub sum : flag (not (is_true n)) ≡ 1 - n
  pub yes : is_true (flag (not (is_true n))) ≡ true → is_true n ≡ false
  pub no : is_true (flag (not (is_true n))) ≡ false → is_true n ≡ true

other : (n : ℕ) → n ≤ 1 → Other n
other zero small = record { code = refl; sum = refl; yes = λ e. refl; no = λ e. absurd (let bad : true ≡ false = e in cc) }
other (suc zero) small = record { code = refl; sum = refl; yes = λ e. absurd (let bad : false ≡ true = e in cc); no = λ e. refl }
other (suc (suc n)) small = absurd (omega (arith, small))

pub sound : (ps : List Param) (scope : Scope) (f : Env → ℕ) (before : Context) (p : ExprOut) (mid : Context)
    → ExprDone ps scope f Flag before p mid → (at : ℕ)
    → Yields (ExprDone ps scope (λ env. flag (not (is_true (f env)))) Flag before) (after at p mid)
sound ps scope f before p mid d at =
    yields_made (ExprDone ps scope sem Flag before) mid at form (λ h. give (out h))
    (came_done (Of f Flag p) ps scope before mid (came_one ps scope f Flag before mid p d) sem Flag (out form)
    (record {
      known = known_less (length mid.tops) (pos 1) p.form d.known;
      yes_known = d.no_known;
      no_known = d.yes_known;
      locals = λ xs has. locals_bin xs bop.Eq p.code (b.Lit 0) (d.locals xs has) (locals_lit xs 0);
    })
    (λ call v env mem vars fits r.
    let small : f env ≤ 1 = r.small in
    let o : Other (f env) = other (f env) small in
    let value_is = value_sum v (pos 1) ((negsuc 0, p.form) ∷ []) in
    let one = r.form in
    let sum = o.sum in
    record {
      value = value_bin mem vars bop.Eq p.code (b.Lit 0) (f env) 0 r.value (value_lit mem vars 0) ∙ ap Some o.code;
      small = omega (arith, sum);
      form = omega (arith, ints, value_is, one, sum, small);
      yes = λ e. r.no (o.yes e);
      no = λ e. r.yes (o.no e);
    }))
  where
    sem : Env → ℕ
    sem env = flag (not (is_true (f env)))

    form : LinearForm
    form = sum_of (pos 1) ((negsuc 0, p.form) ∷ [])

    out : LinearForm → ExprOut
    out h = record { code = b.Bin bop.Eq p.code (b.Lit 0); form = h; yes = p.no; no = p.yes }
