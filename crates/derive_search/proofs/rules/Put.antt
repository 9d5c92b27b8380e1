-- What the search finds for a write is an instance.
use Rattle.std.proofs.Common.{◌≡◌, refl, sym, arith, ℕ, ◌+◌, max, List, [], ◌∷◌, Option, Some, None, option_and_then, is_some}
use Rattle.std.proofs.Common.{Result, Ok, Err}
use Rattle.rup_base.specs.declared.refusal.Refusal.{Refusal}
use Rattle.model_syntax.specs.Names.{Name}
use Rattle.model_syntax.specs.declared.expr.Expr.{Expr}
use Rattle.model_syntax.specs.declared.stmt.Stmt.{Stmt, out-Stmt}
use Rattle.model_syntax.specs.declared.stmt.Stmt.TheOpen as s
use Rattle.side_certs.specs.declared.certificate.Cert.{Cert}
use Rattle.sym_heap.specs.Context.{Context, own}
use Rattle.deriv_tree.specs.declared.rule.Rule.TheVariants as rule
use Rattle.model_syntax.specs.Limits as limits
use Rattle.deriv_tree.specs.Measure as measure
use Rattle.deriv_tree.specs.declared.tree.ExprNode.{ExprNode}
use Rattle.expr_rules.specs.Row as expr
use Rattle.stmt_rules.specs.declared.output.StmtOut.{StmtOut}
use Rattle.stmt_rules.specs.rules.Put as put_rule
use Rattle.derive_search.specs.Guide.{Guide}
use Rattle.derive_search.specs.declared.found.Found.{Found}
use Rattle.derive_search.specs.declared.seeker.Seeker.{Seeker}
use Rattle.derive_search.specs.Words.{give, with_context, in_context}
use Rattle.derive_search.specs.Rows.{certificate, index_goal}
use Rattle.derive_search.specs.Expressions.{seek}
use Rattle.derive_search.specs.Statements as search
use Rattle.derive_search.specs.Instance.{Gives, Derives, StmtDerives}
use Rattle.derive_search.proofs.Depth.{stmt_depth_is, two_top}
use Rattle.derive_search.proofs.ExprLaw.{expressions_derive, then_seek}
use Rattle.derive_search.proofs.laws.Walking.{gives_then, gives_where}
use Rattle.derive_search.specs.Nodes as nodes
use Rattle.derive_search.specs.Nodes.{node}
use Rattle.derive_search.proofs.Stands.{begun, stands}

module _ (guide : Guide) (z : Stmt) (k u : Seeker) (refusal : Refusal) (kids : List ExprNode) (a : Name) (f g : Found) where
  pub put_gives : (o : Option Cert)
      → ((c : Cert) (out : StmtOut) (d : Context) → put_rule.after (c ∷ []) k.entered a f.out g.out u.ctx ≡ Ok (out, d)
      → StmtDerives guide z k (node rule.SPut [] (c ∷ []) kids) (record u { ctx = d }))
      → Gives (StmtDerives guide z k) (with_context u (search.put_ended refusal kids (search.put_with k.entered a f g o u.ctx)))
  put_gives None more = tt
  put_gives (Some c) more = by (put_rule.after (c ∷ []) k.entered a f.out g.out u.ctx) (more c) where
    by : (r : Result (StmtOut × Context) Refusal)
        → ((out : StmtOut) (d : Context) → r ≡ Ok (out, d)
        → StmtDerives guide z k (node rule.SPut [] (c ∷ []) kids) (record u { ctx = d }))
        → Gives (StmtDerives guide z k) (with_context u (search.put_ended refusal kids (search.after_put c r)))
    by (Ok p) go = go p.0 p.1 refl
    by (Err other) go = tt

module _ (guide : Guide) (deep stmt_number : ℕ) where
  -- index and value
  pub record Two (i v : Expr) (before : Seeker) (fg : Found × Found) (after : Seeker) : Type 0 where
    pub mid : Seeker
    pub one : Derives guide i before fg.0 mid
    pub two : Derives guide v mid fg.1 after

  pub two_derive : (i v : Expr) (t : Seeker) → Gives (Two i v t) (search.seek_two guide deep stmt_number i v t)
  two_derive i v t =
      gives_then (Two i v t) t (Derives guide i t) (seek guide deep stmt_number i)
      (λ f. then_seek (seek guide deep stmt_number v) (λ g. give (f, g))) (expressions_derive guide deep stmt_number i t)
      (λ f u one. gives_then (Two i v t) u (Derives guide v u) (seek guide deep stmt_number v) (λ g. give (f, g))
      (expressions_derive guide deep stmt_number v u)
      (λ g w two. record { mid = u; one = one; two = two }))

module _ (guide : Guide) (z : Stmt) (k : Seeker) (deep stmt_number : ℕ) where
  pub put_derives : (a : Name) (i v : Expr) → out-Stmt z ≡ s.Put a i v
      → Gives (StmtDerives guide z k) (search.seek_put guide deep k.entered stmt_number a i v (begun k))
  put_derives a i v is =
      gives_where (StmtDerives guide z k) (begun k) (λ c. is_some (own c a)) (nodes.stuck stmt_number)
      (then_seek (search.seek_two guide deep stmt_number i v)
      (λ fg. in_context (search.storing k.entered (nodes.stuck stmt_number) a fg.0 fg.1)))
      (λ there. gives_then (StmtDerives guide z k) (begun k) (Two guide deep stmt_number i v (begun k))
      (search.seek_two guide deep stmt_number i v)
      (λ fg. in_context (search.storing k.entered (nodes.stuck stmt_number) a fg.0 fg.1))
      (two_derive guide deep stmt_number i v (begun k))
      (λ fg u both. put_gives guide z k u (nodes.stuck stmt_number) (fg.0.node ∷ fg.1.node ∷ []) a fg.0 fg.1
      (option_and_then (certificate u.ctx) (index_goal a fg.0.out.form u.ctx))
      (λ c o d e.
      let second : (expr.judged guide.turn fg.1.node).row (k.entered + 1 + (expr.judged guide.turn fg.0.node).size) v both.mid.ctx
      ≡ Ok (fg.1.out, u.ctx) = rw (sym both.one.entered) both.two.row in
      let one = both.one.entered in let two = both.two.entered in let three = both.one.sized in let four = both.two.sized in
      stands guide z k (s.Put a i v) is rule.SPut [] (c ∷ []) (fg.0.node ∷ fg.1.node ∷ []) o (record u { ctx = d }) refl refl
      (rw (there, both.one.row, second) e) (omega (arith, one, two)) both.two.few (omega (arith, three, four))
      (rw (both.one.shaped, both.two.shaped) refl)
      (λ plain. let depth : limits.stmt_depth z
      ≡ max (limits.expr_depth i) (limits.expr_depth v) = stmt_depth_is z (s.Put a i v) is in
      let top = two_top (measure.expr_depth fg.0.node) (measure.expr_depth fg.1.node) (limits.expr_depth i) (limits.expr_depth v)
      (both.one.shallow plain) (both.two.shallow plain) in
      omega (arith, depth, top)))))
