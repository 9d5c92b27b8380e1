-- What the search finds for an s-map is an instance.
use Rattle.std.proofs.Common.{◌≡◌, refl, sym, arith, ℕ, ◌+◌, [], ◌∷◌, Option, Some, None, Result, Ok, Err}
use Rattle.rup_base.specs.declared.refusal.Refusal.{Refusal}
use Rattle.model_syntax.specs.Names.{Name}
use Rattle.model_syntax.specs.Limits as limits
use Rattle.model_syntax.specs.declared.expr.Expr.{Expr}
use Rattle.model_syntax.specs.declared.stmt.Stmt.{Stmt, out-Stmt}
use Rattle.model_syntax.specs.declared.stmt.Stmt.TheOpen as s
use Rattle.sym_heap.specs.declared.parts.Clause.{Clause}
use Rattle.sym_heap.specs.Context.{Context}
use Rattle.sym_heap.specs.Ends.{standing}
use Rattle.deriv_tree.specs.Measure as measure
use Rattle.deriv_tree.specs.declared.rule.Rule.TheVariants as rule
use Rattle.expr_rules.specs.declared.output.ExprOut.{ExprOut}
use Rattle.expr_rules.specs.Row as expr
use Rattle.expr_rules.specs.Words.{Judged}
use Rattle.stmt_rules.specs.declared.loops.ElementLocals.{ElementLocals}
use Rattle.stmt_rules.specs.declared.output.StmtOut.{StmtOut}
use Rattle.stmt_rules.specs.Row.{parts}
use Rattle.stmt_rules.specs.rules.Map as map_rule
use Rattle.derive_search.specs.Guide.{Guide}
use Rattle.derive_search.specs.declared.mapping.MapStart.{MapStart}
use Rattle.derive_search.specs.declared.seeker.Seeker.{Seeker}
use Rattle.derive_search.specs.Elements.{map_locals}
use Rattle.derive_search.specs.Expressions.{seek}
use Rattle.derive_search.specs.Locals.{Homes}
use Rattle.derive_search.specs.Mapping as search
use Rattle.derive_search.specs.Nodes.{stuck}
use Rattle.derive_search.specs.Opening.{map_opens}
use Rattle.derive_search.specs.Words.{in_context, with_context}
use Rattle.derive_search.specs.Instance.{Gives, Derives, StmtDerives}
use Rattle.derive_search.proofs.Depth.{stmt_depth_is, one_top}
use Rattle.derive_search.proofs.laws.ElementLocals.{InRange, map_in_range, map_read}
use Rattle.derive_search.proofs.ExprLaw.{expressions_derive, then_seek}
use Rattle.derive_search.proofs.laws.Walking.{gives_then}
use Rattle.derive_search.proofs.Stands.{begun, step, stands, ended_gives}

-- the kid begins, from one context to another
record Started (at : ℕ) (a x : Name) (c : Context) (o : MapStart) (d : Context) : Type 0 where
  range : InRange o.locals
  between : Context
  array : map_rule.array at a o.locals c ≡ Ok (o.clause, between)
  before : o.before ≡ standing between
  begins : map_rule.begins at a x o.locals o.clause between ≡ Ok (tt, d)

-- the rule's row, from what its steps give
row_gives : (at : ℕ) (a x : Name) (v : Expr) (kid : Judged) (c d e f : Context) (o : MapStart) (p : ExprOut) (out : StmtOut)
    → Started at a x c o d → kid.row (at + 1) v d ≡ Ok (p, e) → map_rule.after at a o.locals o.clause o.before p.code e
    ≡ Ok (out, f)
    → parts (step rule.SMap (search.map_args o.locals) []) (kid ∷ []) [] at (s.Map a x v) c ≡ Ok (out, f)
row_gives at a x v kid c d e f o p out started runs ends =
    let read = map_read at o.locals c started.range in
    let last : map_rule.after at a o.locals o.clause (standing started.between) p.code e
    ≡ Ok (out, f) = rw (sym started.before) ends in
    rw (read, started.array, started.begins, runs) last

module _ (h : Homes) (at stmt_number : ℕ) (a x : Name) (k : Seeker) where
  abbrev Begins : MapStart → Seeker → Type 0
  Begins o t = Started at a x k.ctx o t.ctx × (t.entered ≡ k.entered)

  module _ (l : ElementLocals) (range : InRange l) where
    abbrev Opens : Type 0
    Opens = Gives Begins (with_context k (search.map_started (stuck stmt_number) l (map_opens at a x l k.ctx)))

    by_begins : (b : Clause) (m : Context) → map_rule.array at a l k.ctx ≡ Ok (b, m) → (r : Result (Unit {0} × Context) Refusal)
        → map_rule.begins at a x l b m ≡ r → Opens
    by_begins b m array (Ok p) begins =
        rw (array, begins) (record { range = range; between = m; array = array; before = refl; begins = begins }, refl)
    by_begins b m array (Err refusal) begins = rw (array, begins) tt

    by_array : (r : Result (Clause × Context) Refusal) → map_rule.array at a l k.ctx ≡ r → Opens
    by_array (Ok p) array = by_begins p.0 p.1 array (map_rule.begins at a x l p.0 p.1) refl
    by_array (Err refusal) array = rw array tt

  begun_gives : Gives Begins (in_context (search.map_begun h at (stuck stmt_number) a x) k)
  begun_gives = by (map_locals h x k.ctx) refl where
    by : (o : Option ElementLocals) → map_locals h x k.ctx ≡ o
        → Gives Begins (with_context k (search.map_with at (stuck stmt_number) a x o k.ctx))
    by None is = tt
    by (Some l) is = by_array l (map_in_range h k.ctx x l is) (map_rule.array at a l k.ctx) refl

module _ (guide : Guide) (z : Stmt) (k : Seeker) (deep stmt_number : ℕ) where
  pub map_derives : (a x : Name) (v : Expr) → out-Stmt z ≡ s.Map a x v
      → Gives (StmtDerives guide z k) (search.seek_map guide deep k.entered stmt_number a x v (begun k))
  map_derives a x v is =
      gives_then (StmtDerives guide z k) (begun k) (Begins guide.homes k.entered stmt_number a x (begun k))
      (in_context (search.map_begun guide.homes k.entered (stuck stmt_number) a x))
      (λ o. then_seek (seek guide deep stmt_number v) (λ f. in_context (search.mapped k.entered (stuck stmt_number) a o f)))
      (begun_gives guide.homes k.entered stmt_number a x (begun k))
      (λ o t b. gives_then (StmtDerives guide z k) t (Derives guide v t) (seek guide deep stmt_number v)
      (λ f. in_context (search.mapped k.entered (stuck stmt_number) a o f))
      (expressions_derive guide deep stmt_number v t)
      (λ f u d. ended_gives (StmtDerives guide z k) (search.map_node o.locals f.node) u (stuck stmt_number)
      (map_rule.after k.entered a o.locals o.clause o.before f.out.code u.ctx)
      (λ out e ends.
      let same : t.entered ≡ k.entered + 1 = b.1 in let entered = d.entered in let sized = d.sized in
      let runs : (expr.judged guide.turn f.node).row (k.entered + 1) v t.ctx ≡ Ok (f.out, u.ctx) = rw (sym same) d.row in
      stands guide z k (s.Map a x v) is rule.SMap (search.map_args o.locals) [] (f.node ∷ []) out (record u { ctx = e }) refl refl
      (row_gives k.entered a x v (expr.judged guide.turn f.node) k.ctx t.ctx u.ctx e o f.out out b.0 runs ends)
      (omega (arith, same, entered)) d.few (omega (arith, sized)) (rw d.shaped refl)
      (λ plain. let depth : limits.stmt_depth z ≡ limits.expr_depth v = stmt_depth_is z (s.Map a x v) is in
      let top = one_top (measure.expr_depth f.node) (limits.expr_depth v) (d.shallow plain) in
      omega (arith, depth, top)))))
