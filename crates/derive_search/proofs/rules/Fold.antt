-- What the search finds for an s-fold is an instance.
use Rattle.std.proofs.Common.{◌≡◌, refl, sym, arith, ℕ, ◌+◌, [], ◌∷◌, Option, Some, None, Result, Ok, Err}
use Rattle.rup_base.specs.declared.refusal.Refusal.{Refusal}
use Rattle.model_syntax.specs.Names.{Name}
use Rattle.model_syntax.specs.Limits as limits
use Rattle.model_syntax.specs.declared.expr.Expr.{Expr}
use Rattle.model_syntax.specs.declared.expr.Scalar.{Scalar}
use Rattle.model_syntax.specs.declared.stmt.Stmt.{Stmt, out-Stmt}
use Rattle.model_syntax.specs.declared.stmt.Stmt.TheOpen as s
use Rattle.sym_heap.specs.declared.parts.Clause.{Clause}
use Rattle.sym_heap.specs.Context.{Context}
use Rattle.sym_heap.specs.Ends.{standing}
use Rattle.deriv_tree.specs.Measure as measure
use Rattle.deriv_tree.specs.declared.rule.Rule.TheVariants as rule
use Rattle.expr_rules.specs.declared.output.ExprOut.{ExprOut}
use Rattle.expr_rules.specs.Row as expr
use Rattle.expr_rules.specs.Words.{Judged}
use Rattle.stmt_rules.specs.declared.loops.FoldLocals.{FoldLocals}
use Rattle.stmt_rules.specs.declared.output.StmtOut.{StmtOut}
use Rattle.stmt_rules.specs.Row.{parts}
use Rattle.stmt_rules.specs.rules.Fold as fold_rule
use Rattle.derive_search.specs.Guide.{Guide}
use Rattle.derive_search.specs.declared.folding.FoldStart.{FoldStart}
use Rattle.derive_search.specs.declared.seeker.Seeker.{Seeker}
use Rattle.derive_search.specs.Elements.{fold_locals}
use Rattle.derive_search.specs.Expressions.{seek}
use Rattle.derive_search.specs.Locals.{Homes}
use Rattle.derive_search.specs.Folding as search
use Rattle.derive_search.specs.Nodes.{stuck}
use Rattle.derive_search.specs.Opening.{fold_opens}
use Rattle.derive_search.specs.Words.{in_context, with_context}
use Rattle.derive_search.specs.Instance.{Gives, Derives, StmtDerives}
use Rattle.derive_search.proofs.Depth.{stmt_depth_is, one_top}
use Rattle.derive_search.proofs.laws.ElementLocals.{FoldInRange, fold_in_range, fold_read}
use Rattle.derive_search.proofs.ExprLaw.{expressions_derive, then_seek}
use Rattle.derive_search.proofs.laws.Walking.{gives_then}
use Rattle.derive_search.proofs.Stands.{begun, step, stands, ended_gives}

-- the kid begins, from one context to another
record Started (at : ℕ) (t a x : Name) (c : Context) (o : FoldStart) (d : Context) : Type 0 where
  range : FoldInRange o.locals
  one : Context
  array : fold_rule.array at t a o.locals c ≡ Ok (o.clause, one)
  two : Context
  start : fold_rule.start at t one ≡ Ok (o.first, two)
  before : o.before ≡ standing two
  begins : fold_rule.begins at t x o.locals o.clause o.first.1 two ≡ Ok (tt, d)

-- the rule's row, from what its steps give
row_gives : (at : ℕ) (t a x : Name) (v : Expr) (kid : Judged) (c d e f : Context) (o : FoldStart) (p : ExprOut) (out : StmtOut)
    → Started at t a x c o d → kid.row (at + 1) v d ≡ Ok (p, e) → fold_rule.after at t o.locals o.clause o.first o.before p.code e
    ≡ Ok (out, f)
    → parts (step rule.SFold (search.fold_args o.locals) []) (kid ∷ []) [] at (s.Fold t a x v) c ≡ Ok (out, f)
row_gives at t a x v kid c d e f o p out started runs ends =
    let read = fold_read at o.locals c started.range in
    let last : fold_rule.after at t o.locals o.clause o.first (standing started.two) p.code e
    ≡ Ok (out, f) = rw (sym started.before) ends in
    rw (read, started.array, started.start, started.begins, runs) last

module _ (h : Homes) (at stmt_number : ℕ) (t a x : Name) (k : Seeker) where
  abbrev Begins : FoldStart → Seeker → Type 0
  Begins o u = Started at t a x k.ctx o u.ctx × (u.entered ≡ k.entered)

  module _ (l : FoldLocals) (range : FoldInRange l) where
    abbrev Opens : Type 0
    Opens = Gives Begins (with_context k (search.fold_started (stuck stmt_number) l (fold_opens at t a x l k.ctx)))

    by_begins : (b : Clause) (first : ℕ × Scalar) (m n : Context) → fold_rule.array at t a l k.ctx ≡ Ok (b, m)
        → fold_rule.start at t m ≡ Ok (first, n)
        → (r : Result (Unit {0} × Context) Refusal) → fold_rule.begins at t x l b first.1 n ≡ r → Opens
    by_begins b first m n array start (Ok p) begins =
        rw (array, start, begins) (
          record
              { range = range; one = m; array = array; two = n; start = start; before = refl; begins = begins },
          refl,
        )
    by_begins b first m n array start (Err refusal) begins = rw (array, start, begins) tt

    by_start : (b : Clause) (m : Context) → fold_rule.array at t a l k.ctx ≡ Ok (b, m)
        → (r : Result ((ℕ × Scalar) × Context) Refusal) → fold_rule.start at t m ≡ r → Opens
    by_start b m array (Ok p) start = by_begins b p.0 m p.1 array start (fold_rule.begins at t x l b p.0.1 p.1) refl
    by_start b m array (Err refusal) start = rw (array, start) tt

    by_array : (r : Result (Clause × Context) Refusal) → fold_rule.array at t a l k.ctx ≡ r → Opens
    by_array (Ok p) array = by_start p.0 p.1 array (fold_rule.start at t p.1) refl
    by_array (Err refusal) array = rw array tt

  begun_gives : Gives Begins (in_context (search.fold_begun h at (stuck stmt_number) t a x) k)
  begun_gives = by (fold_locals h t x k.ctx) refl where
    by : (o : Option FoldLocals) → fold_locals h t x k.ctx ≡ o
        → Gives Begins (with_context k (search.fold_with at (stuck stmt_number) t a x o k.ctx))
    by None is = tt
    by (Some l) is = by_array l (fold_in_range h k.ctx t x l is) (fold_rule.array at t a l k.ctx) refl

module _ (guide : Guide) (z : Stmt) (k : Seeker) (deep stmt_number : ℕ) where
  pub fold_derives : (t a x : Name) (v : Expr) → out-Stmt z ≡ s.Fold t a x v
      → Gives (StmtDerives guide z k) (search.seek_fold guide deep k.entered stmt_number t a x v (begun k))
  fold_derives t a x v is =
      gives_then (StmtDerives guide z k) (begun k) (Begins guide.homes k.entered stmt_number t a x (begun k))
      (in_context (search.fold_begun guide.homes k.entered (stuck stmt_number) t a x))
      (λ o. then_seek (seek guide deep stmt_number v) (λ f. in_context (search.folded k.entered (stuck stmt_number) t o f)))
      (begun_gives guide.homes k.entered stmt_number t a x (begun k))
      (λ o u b. gives_then (StmtDerives guide z k) u (Derives guide v u) (seek guide deep stmt_number v)
      (λ f. in_context (search.folded k.entered (stuck stmt_number) t o f))
      (expressions_derive guide deep stmt_number v u)
      (λ f w d. ended_gives (StmtDerives guide z k) (search.fold_node o.locals f.node) w (stuck stmt_number)
      (fold_rule.after k.entered t o.locals o.clause o.first o.before f.out.code w.ctx)
      (λ out e ends.
      let same : u.entered ≡ k.entered + 1 = b.1 in let entered = d.entered in let sized = d.sized in
      let runs : (expr.judged guide.turn f.node).row (k.entered + 1) v u.ctx ≡ Ok (f.out, w.ctx) = rw (sym same) d.row in
      stands guide z k (s.Fold t a x v) is rule.SFold (search.fold_args o.locals) [] (f.node ∷ []) out (record w { ctx = e }) refl
      refl
      (row_gives k.entered t a x v (expr.judged guide.turn f.node) k.ctx u.ctx w.ctx e o f.out out b.0 runs ends)
      (omega (arith, same, entered)) d.few (omega (arith, sized)) (rw d.shaped refl)
      (λ plain. let depth : limits.stmt_depth z ≡ limits.expr_depth v = stmt_depth_is z (s.Fold t a x v) is in
      let top = one_top (measure.expr_depth f.node) (limits.expr_depth v) (d.shallow plain) in
      omega (arith, depth, top)))))
