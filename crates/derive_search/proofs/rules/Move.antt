-- What the search finds for a write after which the array has another name is an instance.
use Rattle.std.proofs.Common.{◌≡◌, refl, sym, ◌∙◌, ap, arith, ℕ, ◌+◌, max, Bool, true, false, not, ◌||◌, List, [], ◌∷◌, Option}
use Rattle.std.proofs.Common.{Some, None, option_and_then, is_some, Result, Ok, Err}
use Rattle.rup_base.specs.Answers.{and_then_with}
use Rattle.rup_base.specs.declared.refusal.Refusal.{Refusal}
use Rattle.model_syntax.specs.Names.{Name, same}
use Rattle.model_syntax.specs.declared.expr.Expr.{Expr}
use Rattle.model_syntax.specs.declared.stmt.Stmt.{Stmt, out-Stmt}
use Rattle.model_syntax.specs.declared.stmt.Stmt.TheOpen as s
use Rattle.side_certs.specs.declared.certificate.Cert.{Cert}
use Rattle.sym_heap.specs.Context.{Context, own, can_move, renamed, with_clause}
use Rattle.deriv_tree.specs.declared.rule.Rule.TheVariants as rule
use Rattle.model_syntax.specs.Limits as limits
use Rattle.deriv_tree.specs.Measure as measure
use Rattle.deriv_tree.specs.declared.tree.ExprNode.{ExprNode}
use Rattle.expr_rules.specs.Row as expr
use Rattle.stmt_rules.specs.declared.output.StmtOut.{StmtOut}
use Rattle.expr_rules.specs.rules.Get as get_rule
use Rattle.stmt_rules.specs.rules.Put as put_rule
use Rattle.stmt_rules.specs.rules.Move as move_rule
use Rattle.derive_search.specs.Guide.{Guide}
use Rattle.derive_search.specs.declared.found.Found.{Found}
use Rattle.derive_search.specs.declared.seeker.Seeker.{Seeker}
use Rattle.derive_search.specs.Words.{with_context, in_context}
use Rattle.derive_search.specs.Rows.{certificate, index_goal}
use Rattle.derive_search.specs.Statements as search
use Rattle.derive_search.specs.Instance.{Gives, StmtDerives}
use Rattle.derive_search.proofs.laws.Choosing.{left_true}
use Rattle.derive_search.proofs.Depth.{stmt_depth_is, two_top}
use Rattle.derive_search.proofs.ExprLaw.{then_seek}
use Rattle.derive_search.proofs.rules.Put.{Two, two_derive}
use Rattle.derive_search.proofs.laws.Walking.{gives_then, gives_where}
use Rattle.derive_search.specs.Nodes as nodes
use Rattle.derive_search.specs.Nodes.{node}
use Rattle.derive_search.proofs.Stands.{begun, stands}

module _ (guide : Guide) (z : Stmt) (k u : Seeker) (refusal : Refusal) (kids : List ExprNode) (a : Name) (f g : Found) where
  pub move_gives : (b : Name) (o : Option Cert)
      → ((c : Cert) (out : StmtOut) (d : Context) → put_rule.after (c ∷ []) k.entered a f.out g.out u.ctx ≡ Ok (out, d)
      → can_move d a b ≡ true
      → StmtDerives guide z k (node rule.SMove [] (c ∷ []) kids) (record u { ctx = with_clause a (renamed b) d }))
      → Gives (StmtDerives guide z k)
      (with_context u (search.move_ended refusal kids b a (search.put_with k.entered a f g o u.ctx)))
  move_gives b None more = tt
  move_gives b (Some c) more = by (put_rule.after (c ∷ []) k.entered a f.out g.out u.ctx) (more c) where
    may : (d : Context) (m : Bool) → can_move d a b ≡ m
        → (can_move d a b ≡ true → StmtDerives guide z k (node rule.SMove [] (c ∷ []) kids)
        (record u { ctx = with_clause a (renamed b) d }))
        → Gives (StmtDerives guide z k) (with_context u (search.move_ended refusal kids b a (Some (c, d))))
    may d true e go = rw e (go e)
    may d false e go = rw e tt

    by : (r : Result (StmtOut × Context) Refusal) → ((out : StmtOut) (d : Context) → r ≡ Ok (out, d) → can_move d a b ≡ true
        → StmtDerives guide z k (node rule.SMove [] (c ∷ []) kids) (record u { ctx = with_clause a (renamed b) d }))
        → Gives (StmtDerives guide z k) (with_context u (search.move_ended refusal kids b a (search.after_put c r)))
    by (Ok p) go = may p.1 (can_move p.1 a b) refl (go p.0 p.1 refl)
    by (Err other) go = tt

module _ (guide : Guide) (z : Stmt) (k : Seeker) (deep stmt_number : ℕ) where
  pub move_derives : (b a : Name) (i v : Expr) → out-Stmt z ≡ s.Move b a i v
      → Gives (StmtDerives guide z k) (search.seek_move guide deep k.entered stmt_number b a i v (begun k))
  move_derives b a i v is =
      gives_where (StmtDerives guide z k) (begun k) (λ c. can_move c a b) (nodes.stuck stmt_number)
      (then_seek (search.seek_two guide deep stmt_number i v)
      (λ fg. in_context (search.moving k.entered (nodes.stuck stmt_number) b a fg.0 fg.1)))
      (λ there. gives_then (StmtDerives guide z k) (begun k) (Two guide deep stmt_number i v (begun k))
      (search.seek_two guide deep stmt_number i v)
      (λ fg. in_context (search.moving k.entered (nodes.stuck stmt_number) b a fg.0 fg.1))
      (two_derive guide deep stmt_number i v (begun k))
      (λ fg u both. move_gives guide z k u (nodes.stuck stmt_number) (fg.0.node ∷ fg.1.node ∷ []) a fg.0 fg.1 b
      (option_and_then (certificate u.ctx) (index_goal a fg.0.out.form u.ctx))
      (λ c o d e may.
      let row : move_rule.after (c ∷ []) k.entered a b fg.0.out fg.1.out u.ctx ≡ Ok (o, with_clause a (renamed b) d) =
      rw (e, may) refl in
      let has : is_some (own k.ctx a) ≡ true = left_true (is_some (own k.ctx a)) (same a b || not (is_some (own k.ctx b))) there
      in
      let first : get_rule.before k.entered a k.ctx ≡ Ok (tt, k.ctx) = rw has refl in
      let next : move_rule.may_take k.entered a b k.ctx ≡ Ok (tt, k.ctx) = rw there refl in
      let before : move_rule.before k.entered a b k.ctx ≡ Ok (tt, k.ctx) =
      ap (λ (r : Result (Unit {0} × Context) Refusal). and_then_with r (λ x. move_rule.may_take k.entered a b)) first ∙ next in
      let second : (expr.judged guide.turn fg.1.node).row (k.entered + 1 + (expr.judged guide.turn fg.0.node).size) v both.mid.ctx
      ≡ Ok (fg.1.out, u.ctx) = rw (sym both.one.entered) both.two.row in
      let one = both.one.entered in let two = both.two.entered in let three = both.one.sized in let four = both.two.sized in
      stands guide z k (s.Move b a i v) is rule.SMove [] (c ∷ []) (fg.0.node ∷ fg.1.node ∷ []) o
      (record u { ctx = with_clause a (renamed b) d }) refl refl
      (rw (before, both.one.row, second) row) (omega (arith, one, two)) both.two.few (omega (arith, three, four))
      (rw (both.one.shaped, both.two.shaped) refl)
      (λ plain. let depth : limits.stmt_depth z
      ≡ max (limits.expr_depth i) (limits.expr_depth v) = stmt_depth_is z (s.Move b a i v) is in
      let top = two_top (measure.expr_depth fg.0.node) (measure.expr_depth fg.1.node) (limits.expr_depth i) (limits.expr_depth v)
      (both.one.shallow plain) (both.two.shallow plain) in
      omega (arith, depth, top)))))
