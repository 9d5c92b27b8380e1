-- e-cmp is sound: what a comparison says of its parts holds where it does.
use Rattle.std.proofs.Common.{◌≡◌, refl, sym, ◌∙◌, ap, arith, ℕ, ◌<◌, ◌≤◌, Bool, true, false, List, [], ◌∷◌, length, Some, pos}
use Rattle.std.proofs.Common.{negsuc, ◌≤ℤ◌}
use Rattle.std.proofs.lemmas.Bool.Decides.{nat_tests}
use Rattle.std.proofs.lemmas.Int.{ints}
use Rattle.side_certs.specs.LinearForm.{LinearForm, constant, symbol, plus, times, minus, is_within, value_at}
use Rattle.side_certs.proofs.laws.Values.{value_symbol, value_minus}
use Rattle.model_syntax.specs.declared.expr.Cmp.{Cmp}
use Rattle.model_syntax.specs.declared.expr.Cmp.TheVariants as cmp
use Rattle.model_syntax.specs.declared.expr.Scalar.TheVariants.{Word, Flag}
use Rattle.model_syntax.specs.declared.program.Param.{Param}
use Rattle.model_syntax.specs.Environment.{Env}
use Rattle.model_syntax.specs.Operation.{holds}
use Rattle.model_syntax.specs.Scope.{Scope}
use Rattle.model_syntax.specs.Value.{flag}
use Rattle.sym_heap.specs.Context.{Context, with_top}
use Rattle.sym_heap.specs.Fits.{Known}
use Rattle.sym_heap.proofs.laws.Extending.{known_plus, known_times, known_constant}
use Rattle.bed_syntax.specs.declared.expression.BExpr.TheVariants as b
use Rattle.expr_rules.specs.declared.output.ExprOut.{ExprOut}
use Rattle.expr_rules.specs.Operations.{test_of}
use Rattle.expr_rules.specs.Words.{Rule, ◌>>=◌, sum_of, give}
use Rattle.expr_rules.specs.Sound.{AllKnown, AllHold, ExprDone, Yields}
use Rattle.expr_rules.specs.rules.Cmp.{Facts, facts, after}
use Rattle.expr_rules.proofs.Codes.{value_bin, locals_bin}
use Rattle.expr_rules.proofs.Came.{Kid, Of, And, Fact, WithNumber, kid_more, extends_top, came_fresh, came_done}
use Rattle.expr_rules.proofs.Flags.{same_test, flag_small, flag_true, each_more, each_none}
use Rattle.expr_rules.proofs.Fresh.{next_known}
use Rattle.expr_rules.proofs.Kids.{Pair}
use Rattle.expr_rules.proofs.Sums.{value_sum, known_minus}
use Rattle.expr_rules.proofs.laws.Yields.{yields_fresh}

-- the facts of a comparison of two forms
record FactsOf (n : ℕ) (t : Cmp) (F G : LinearForm) (fs : Facts) : Type 0 where
  pub yes_known : AllKnown n fs.0
  pub no_known : AllKnown n fs.1
  pub yes : (v : ℕ → ℕ) (m k : ℕ) → value_at v F ≡ pos m → value_at v G ≡ pos k → holds t m k ≡ true → AllHold v fs.0
  pub no : (v : ℕ → ℕ) (m k : ℕ) → value_at v F ≡ pos m → value_at v G ≡ pos k → holds t m k ≡ false → AllHold v fs.1

module _ (n : ℕ) (F G : LinearForm) (one : Known n F) (two : Known n G) where
  abbrev Holds : (ℕ → ℕ) → LinearForm → Type 0
  Holds v h = pos 0 ≤ℤ value_at v h

  not_less : (v : ℕ → ℕ) (m k : ℕ) → value_at v F ≡ pos m → value_at v G ≡ pos k → k ≤ m → Holds v (minus F G)
  not_less v m k f g less = let whole = value_minus v F G in omega (arith, ints, whole, f, g, less)

  not_more : (v : ℕ → ℕ) (m k : ℕ) → value_at v F ≡ pos m → value_at v G ≡ pos k → m ≤ k → Holds v (minus G F)
  not_more v m k f g less = let whole = value_minus v G F in omega (arith, ints, whole, f, g, less)

  abbrev gap : LinearForm
  gap = sum_of (negsuc 0) ((pos 1, G) ∷ (negsuc 0, F) ∷ [])

  gap_known : Known n gap
  gap_known = known_plus n (times (pos 1) G) (plus (times (negsuc 0) F) (constant (negsuc 0))) (known_times n (pos 1) G two)
      (known_plus n (times (negsuc 0) F) (constant (negsuc 0)) (known_times n (negsuc 0) F one) (known_constant n (negsuc 0)))

  equal_facts : FactsOf n cmp.Eq F G (minus F G ∷ minus G F ∷ [], [])
  equal_facts = record {
    yes_known = each_more (Known n) (minus F G) (minus G F ∷ []) (known_minus n F G one two)
        (each_more (Known n) (minus G F) [] (known_minus n G F two one) (each_none (Known n)));
    no_known = each_none (Known n);
    yes = λ v m k f g is.
        (let same : m ≡ k = grind (arith, nat_tests, is) in
        each_more (Holds v) (minus F G) (minus G F ∷ []) (not_less v m k f g (omega (arith, same)))
        (each_more (Holds v) (minus G F) [] (not_more v m k f g (omega (arith, same))) (each_none (Holds v))));
    no = λ v m k f g is. each_none (Holds v);
  }

  less_facts : FactsOf n cmp.Lt F G (gap ∷ [], minus F G ∷ [])
  less_facts = record {
    yes_known = each_more (Known n) gap [] gap_known (each_none (Known n));
    no_known = each_more (Known n) (minus F G) [] (known_minus n F G one two) (each_none (Known n));
    yes = λ v m k f g is.
        (let less : m < k = grind (arith, nat_tests, is) in
        let whole = value_sum v (negsuc 0) ((pos 1, G) ∷ (negsuc 0, F) ∷ []) in
        each_more (Holds v) gap [] (omega (arith, ints, whole, f, g, less)) (each_none (Holds v)));
    no = λ v m k f g is. (let less : k ≤ m = grind (arith, nat_tests, is) in
        each_more (Holds v) (minus F G) [] (not_less v m k f g less) (each_none (Holds v)));
  }

  signed_facts : FactsOf n cmp.Slt F G ([], [])
  signed_facts = record {
    yes_known = each_none (Known n);
    no_known = each_none (Known n);
    yes = λ v m k f g is. each_none (Holds v);
    no = λ v m k f g is. each_none (Holds v);
  }

  yields_facts : {B : Type 0} (Q : B → Context → Type 0) (c : Context) (at : ℕ) (t : Cmp) (k : Facts → Rule B)
      → ((fs : Facts) → FactsOf n t F G fs → Yields Q (k fs c)) → Yields Q ((facts at t F G >>= k) c)
  yields_facts {B} Q c at cmp.Eq k more = by (is_within (minus F G)) (is_within (minus G F)) refl refl where
    by : (a d : Bool) → is_within (minus F G) ≡ a → is_within (minus G F) ≡ d → Yields Q ((facts at cmp.Eq F G >>= k) c)
    by true true x y = rw (x, y) (more (minus F G ∷ minus G F ∷ [], []) equal_facts)
    by true false x y = rw (x, y) tt
    by false d x y = rw x tt
  yields_facts {B} Q c at cmp.Lt k more = by (is_within gap) (is_within (minus F G)) refl refl where
    by : (a d : Bool) → is_within gap ≡ a → is_within (minus F G) ≡ d → Yields Q ((facts at cmp.Lt F G >>= k) c)
    by true true x y = rw (x, y) (more (gap ∷ [], minus F G ∷ []) less_facts)
    by true false x y = rw (x, y) tt
    by false d x y = rw x tt
  yields_facts Q c at cmp.Slt k more = more ([], []) signed_facts

pub sound : (ps : List Param) (scope : Scope) (f g : Env → ℕ) (before : Context) (pq : ExprOut × ExprOut) (mid : Context)
    → Pair ps scope f g Word Word before pq mid → (at : ℕ) (t : Cmp)
    → Yields (ExprDone ps scope (λ env. flag (holds t (f env) (g env))) Flag before) (after at t pq.0 pq.1 mid)
sound ps scope f g before pq mid k at t =
    yields_fresh (ExprDone ps scope sem Flag before) mid at 1 (λ h. facts at t pq.0.form pq.1.form >>= (λ fs. give (out h fs)))
    (yields_facts (length (with_top 1 mid).tops) pq.0.form pq.1.form one.known two.known (ExprDone ps scope sem Flag before)
    (with_top 1 mid) at t (λ fs. give (out s fs))
    (λ fs known. came_done (WithNumber R ps scope before mid k.came sem) ps scope before (with_top 1 mid)
    (came_fresh R ps scope before mid k.came 1 sem (λ v env mem vars r. flag_small (holds t (f env) (g env)))) sem Flag (out s fs)
    (record {
      known = next_known mid.tops 1;
      yes_known = known.yes_known;
      no_known = known.no_known;
      locals = λ xs has. locals_bin xs (test_of t) pq.0.code pq.1.code (k.one.locals xs has) (k.two.locals xs has);
    })
    (λ call v env mem vars fits r. record {
      value = value_bin mem vars (test_of t) pq.0.code pq.1.code (f env) (g env) r.0.0.value r.0.1.value
          ∙ ap Some (same_test t (f env) (g env));
      small = flag_small (holds t (f env) (g env));
      form = value_symbol v (length mid.tops) ∙ ap pos r.1;
      yes = λ e. known.yes v (f env) (g env) r.0.0.form r.0.1.form (sym (flag_true (holds t (f env) (g env))) ∙ e);
      no = λ e. known.no v (f env) (g env) r.0.0.form r.0.1.form (sym (flag_true (holds t (f env) (g env))) ∙ e);
    })))
  where
    sem : Env → ℕ
    sem env = flag (holds t (f env) (g env))

    s : LinearForm
    s = symbol (length mid.tops)

    R : Fact
    R = And (Of f Word pq.0) (Of g Word pq.1)

    one : Kid before (with_top 1 mid) pq.0
    one = kid_more before mid (with_top 1 mid) pq.0 (extends_top mid 1) k.one

    two : Kid before (with_top 1 mid) pq.1
    two = kid_more before mid (with_top 1 mid) pq.1 (extends_top mid 1) k.two

    out : LinearForm → Facts → ExprOut
    out h fs = record { code = b.Bin (test_of t) pq.0.code pq.1.code; form = h; yes = fs.0; no = fs.1 }
