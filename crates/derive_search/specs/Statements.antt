-- The search over statements: for each the notes before it, and then the one rule that is for it.
use Rattle.std.specs.Prelude.{ℕ, ◌+◌, pos, List, [], ◌∷◌, ◌++◌, map, Option, Some, None, option_and_then, is_some, Result, Ok}
use Rattle.std.specs.Prelude.{Err, if◌then◌else◌}
use Rattle.rup_base.specs.declared.refusal.Refusal.{Refusal}
use Rattle.model_syntax.specs.Names.{Name}
use Rattle.model_syntax.specs.declared.expr.Expr.{Expr, out-Expr}
use Rattle.model_syntax.specs.declared.expr.Scalar.{Scalar}
use Rattle.model_syntax.specs.declared.stmt.Stmt.{Stmt, Stmt-F, fold-Stmt, map-Stmt, out-Stmt}
use Rattle.model_syntax.specs.declared.stmt.Stmt.TheOpen as s
use Rattle.side_certs.specs.declared.certificate.Cert.{Cert}
use Rattle.sym_heap.specs.Context.{Context, can_move, own, renamed, with_clause}
use Rattle.deriv_tree.specs.declared.rule.Rule.TheVariants.{SLet, SPut, SMove}
use Rattle.deriv_tree.specs.declared.tree.ExprNode.{ExprNode}
use Rattle.deriv_tree.specs.declared.tree.StmtNode.{StmtNode}
use Rattle.expr_rules.specs.Words.{Rule}
use Rattle.stmt_rules.specs.declared.output.StmtOut.{StmtOut}
use Rattle.stmt_rules.specs.Words.{kind_of}
use Rattle.stmt_rules.specs.rules.Let as let_rule
use Rattle.stmt_rules.specs.rules.Put as put_rule
use Rattle.derive_search.specs.declared.found.Found.{Found}
use Rattle.derive_search.specs.Words.{Seek, ◌>>=◌, give, enter, where_holds, in_context}
use Rattle.derive_search.specs.Rows.{certificate, index_goal}
use Rattle.derive_search.specs.Expressions.{seek}
use Rattle.derive_search.specs.Guide.{Guide}
use Rattle.derive_search.specs.Locals.{Homes, choice}
use Rattle.derive_search.specs.Nodes.{Adds, stuck, node, ended, in_order}
use Rattle.derive_search.specs.Notes.{notes_before}
use Rattle.derive_search.specs.Branching.{seek_if}
use Rattle.derive_search.specs.Mapping.{seek_map}
use Rattle.derive_search.specs.Folding.{seek_fold}
use Rattle.derive_search.specs.Turns.{seek_for}

-- The last step of each rule, after its kids.

abbrev pub bound : ℕ → Refusal → Name → Found → Option ℕ → Option Scalar → Rule StmtNode
bound at refusal x f (Some l) (Some t) c =
    ended refusal (node SLet (pos l ∷ []) [] (f.node ∷ [])) (let_rule.after at x l t f.out c)
bound at refusal x f _ _ c = Err refusal

abbrev pub binding : Homes → ℕ → Refusal → Name → Expr → Found → Rule StmtNode
binding h at refusal x a f c = bound at refusal x f (choice h x c) (kind_of c (out-Expr a)) c

-- the certificate of a write's index, and the context after the write, where the write has them
abbrev pub after_put : Cert → Result (StmtOut × Context) Refusal → Option (Cert × Context)
after_put k (Ok p) = Some (k, p.1)
after_put k (Err refusal) = None

abbrev pub put_with : ℕ → Name → Found → Found → Option Cert → Context → Option (Cert × Context)
put_with at a i v None c = None
put_with at a i v (Some k) c = after_put k (put_rule.after (k ∷ []) at a i.out v.out c)

abbrev pub written : ℕ → Name → Found → Found → Context → Option (Cert × Context)
written at a i v c = put_with at a i v (option_and_then (certificate c) (index_goal a i.out.form c)) c

abbrev pub put_ended : Refusal → List ExprNode → Option (Cert × Context) → Result (StmtNode × Context) Refusal
put_ended refusal kids None = Err refusal
put_ended refusal kids (Some p) = Ok (node SPut [] (p.0 ∷ []) kids, p.1)

abbrev pub storing : ℕ → Refusal → Name → Found → Found → Rule StmtNode
storing at refusal a i v c = put_ended refusal (i.node ∷ v.node ∷ []) (written at a i v c)

-- the same, after which the array has another name, if it may take it
abbrev pub move_ended : Refusal → List ExprNode → Name → Name → Option (Cert × Context) → Result (StmtNode × Context) Refusal
move_ended refusal kids b a None = Err refusal
move_ended refusal kids b a (Some p) =
    if can_move p.1 a b then Ok (node SMove [] (p.0 ∷ []) kids, with_clause a (renamed b) p.1) else Err refusal

abbrev pub moving : ℕ → Refusal → Name → Name → Found → Found → Rule StmtNode
moving at refusal b a i v c = move_ended refusal (i.node ∷ v.node ∷ []) b a (written at a i v c)

-- Goals.

-- a statement is counted as its node is, and has the number of statements that were counted before it
abbrev pub begin : {A : Type 0} → (ℕ → ℕ → Seek A) → Seek A
begin next = enter (λ at k. next at k.stmts (record k { stmts = k.stmts + 1 }))

abbrev pub seek_let : Guide → ℕ → ℕ → ℕ → Name → Expr → Seek StmtNode
seek_let guide deep at stmt x a = do
  f ← seek guide deep stmt a
  in_context (binding guide.homes at (stuck stmt) x a f)

-- index and value
abbrev pub seek_two : Guide → ℕ → ℕ → Expr → Expr → Seek (Found × Found)
seek_two guide deep stmt i v = do
  f ← seek guide deep stmt i
  g ← seek guide deep stmt v
  give (f, g)

abbrev pub seek_put : Guide → ℕ → ℕ → ℕ → Name → Expr → Expr → Seek StmtNode
seek_put guide deep at stmt a i v = where_holds (λ c. is_some (own c a)) (stuck stmt) (do
  fg ← seek_two guide deep stmt i v
  in_context (storing at (stuck stmt) a fg.0 fg.1))

abbrev pub seek_move : Guide → ℕ → ℕ → ℕ → Name → Name → Expr → Expr → Seek StmtNode
seek_move guide deep at stmt b a i v = where_holds (λ c. can_move c a b) (stuck stmt) (do
  fg ← seek_two guide deep stmt i v
  in_context (moving at (stuck stmt) b a fg.0 fg.1))

-- a statement; of a block inside it are given the searches of its statements
abbrev pub statement : Guide → ℕ → ℕ → ℕ → Stmt-F Adds → Seek StmtNode
statement guide deep at stmt (s.Let x a) = seek_let guide deep at stmt x a
statement guide deep at stmt (s.Put a i v) = seek_put guide deep at stmt a i v
statement guide deep at stmt (s.Move b a i v) = seek_move guide deep at stmt b a i v
statement guide deep at stmt (s.If test names keep first second) = seek_if guide deep at stmt test names keep first second
statement guide deep at stmt (s.For x low high names keep body) = seek_for guide deep at stmt x low high names keep body
statement guide deep at stmt (s.Map a x v) = seek_map guide deep at stmt a x v
statement guide deep at stmt (s.Fold t a x v) = seek_fold guide deep at stmt t a x v

-- the goal of the statement itself
abbrev pub own_goal : Guide → ℕ → Stmt-F Adds → Seek StmtNode
own_goal guide deep t = begin (λ at stmt. statement guide deep at stmt t)

-- a statement's own node behind those of its notes
abbrev pub behind : List StmtNode → Seek StmtNode → Seek (List StmtNode)
behind nodes next = do
  n ← next
  give (nodes ++ n ∷ [])

-- the notes before a statement, and then its own node
abbrev pub after_notes : Adds → Seek StmtNode → Adds
after_notes notes next done = do
  nodes ← notes done
  behind nodes next

abbrev pub stmt_step : Guide → ℕ → Stmt-F Adds → Adds
stmt_step guide deep t = after_notes (notes_before guide.lemmas t) (own_goal guide deep t)

abbrev pub seek_stmt : Guide → ℕ → Stmt → Adds
seek_stmt guide deep = fold-Stmt Adds (stmt_step guide deep)

-- a statement, with the searches of those inside it
abbrev pub opened : Guide → ℕ → Stmt → Stmt-F Adds
opened guide deep t = map-Stmt Stmt Adds (seek_stmt guide deep) (out-Stmt t)

abbrev pub seek_block : Guide → ℕ → List Stmt → Seek (List StmtNode)
seek_block guide deep ts = in_order (map (seek_stmt guide deep) ts) []
