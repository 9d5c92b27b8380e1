-- What the search finds for a binding is an instance.
use Rattle.std.proofs.Common.{◌≡◌, refl, arith, ℕ, pos, [], ◌∷◌, Option, Some, None}
use Rattle.model_syntax.specs.Names.{Name}
use Rattle.model_syntax.specs.declared.expr.Expr.{Expr, out-Expr}
use Rattle.model_syntax.specs.declared.expr.Scalar.{Scalar}
use Rattle.model_syntax.specs.declared.stmt.Stmt.{Stmt, out-Stmt}
use Rattle.model_syntax.specs.declared.stmt.Stmt.TheOpen as s
use Rattle.deriv_tree.specs.declared.rule.Rule.TheVariants as rule
use Rattle.model_syntax.specs.Limits as limits
use Rattle.deriv_tree.specs.Measure as measure
use Rattle.stmt_rules.specs.Words.{kind_of, first_local}
use Rattle.stmt_rules.specs.rules.Let as let_rule
use Rattle.derive_search.specs.Guide.{Guide}
use Rattle.derive_search.specs.declared.found.Found.{Found}
use Rattle.derive_search.specs.declared.seeker.Seeker.{Seeker}
use Rattle.derive_search.specs.Words.{with_context, in_context}
use Rattle.derive_search.specs.Expressions.{seek}
use Rattle.derive_search.specs.Locals.{choice}
use Rattle.derive_search.specs.Statements as search
use Rattle.derive_search.specs.Instance.{Gives, Derives, StmtDerives}
use Rattle.derive_search.proofs.laws.Choosing.{choice_in_range}
use Rattle.derive_search.proofs.Depth.{stmt_depth_is, one_top}
use Rattle.derive_search.proofs.ExprLaw.{expressions_derive}
use Rattle.derive_search.proofs.laws.Walking.{gives_then}
use Rattle.derive_search.specs.Nodes as nodes
use Rattle.derive_search.specs.Nodes.{node}
use Rattle.derive_search.proofs.Stands.{begun, stands, ended_gives}

module _ (guide : Guide) (z : Stmt) (k : Seeker) (deep stmt_number : ℕ) where
  pub let_derives : (x : Name) (a : Expr) → out-Stmt z ≡ s.Let x a
      → Gives (StmtDerives guide z k) (search.seek_let guide deep k.entered stmt_number x a (begun k))
  let_derives x a is =
      gives_then (StmtDerives guide z k) (begun k) (Derives guide a (begun k)) (seek guide deep stmt_number a)
      (λ f. in_context (search.binding guide.homes k.entered (nodes.stuck stmt_number) x a f))
      (expressions_derive guide deep stmt_number a (begun k))
      (λ f t df. by f t df (choice guide.homes x t.ctx) refl (kind_of t.ctx (out-Expr a)) refl) where
        by : (f : Found) (t : Seeker) → Derives guide a (begun k) f t → (o : Option ℕ) → choice guide.homes x t.ctx ≡ o
            → (q : Option Scalar) → kind_of t.ctx (out-Expr a) ≡ q
            → Gives (StmtDerives guide z k) (with_context t (search.bound k.entered (nodes.stuck stmt_number) x f o q t.ctx))
        by f t df None chosen q kind = tt
        by f t df (Some l) chosen None kind = tt
        by f t df (Some l) chosen (Some q) kind =
            ended_gives (StmtDerives guide z k) (node rule.SLet (pos l ∷ []) [] (f.node ∷ [])) t (nodes.stuck stmt_number)
            (let_rule.after k.entered x l q f.out t.ctx)
            (λ o d e.
            let range = choice_in_range guide.homes x t.ctx l chosen in
            let first : first_local (pos l ∷ []) ≡ Some l = rw range refl in
            let entered = df.entered in
            let sized = df.sized in
            stands guide z k (s.Let x a) is rule.SLet (pos l ∷ []) [] (f.node ∷ []) o (record t { ctx = d }) refl refl
            (rw (first, df.row, kind) e)
            (omega (arith, entered)) df.few (omega (arith, sized)) (rw df.shaped refl)
            (λ plain. let depth : limits.stmt_depth z ≡ limits.expr_depth a = stmt_depth_is z (s.Let x a) is in
            let top = one_top (measure.expr_depth f.node) (limits.expr_depth a) (df.shallow plain) in
            omega (arith, depth, top)))
