-- The goal of an expression, one level further.
use Rattle.std.proofs.Common.{◌≡◌, refl, ap, arith, ℕ, zero, suc, ◌-◌}
use Rattle.model_syntax.specs.declared.expr.Expr.{Expr}
use Rattle.derive_search.specs.declared.seeker.Seeker.{Seeker}
use Rattle.derive_search.specs.Guide.{Guide}
use Rattle.lemma_files.specs.Lemmas.{most_steps}
use Rattle.derive_search.specs.Lemmas.{rewriting}
use Rattle.derive_search.specs.Expressions.{goal_of, by_lemma}

pub goal_again : (g : Guide) (deep stmt above : ℕ) (e : Expr) (s : Seeker) → (deep ≡ 0 → ⊥)
    → goal_of g deep stmt above e s
    ≡ by_lemma g.turn (goal_of g (deep - 1) stmt) stmt above e (rewriting g.turn (most_steps - above) e g.lemmas) s
goal_again g zero stmt above e s positive = absurd (positive refl)
goal_again g (suc d) stmt above e s positive =
    let same : d ≡ suc d - 1 = omega arith in
    ap (λ k. by_lemma g.turn (goal_of g k stmt) stmt above e (rewriting g.turn (most_steps - above) e g.lemmas) s) same
