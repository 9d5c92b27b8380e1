-- The search over conditionals: the test, then one side and then the
-- other. A side begins with the facts of its flag in the context
-- after the test; at its end each kept fact gets a certificate. Conditions and contexts are those of the rule.
use Rattle.std.specs.Prelude.{ℕ, List, [], ◌∷◌, ◌++◌, Option, Some, None, Ok, Err, if◌then◌else◌}
use Rattle.rup_base.specs.declared.refusal.Refusal.{Refusal}
use Rattle.model_syntax.specs.Names.{Name}
use Rattle.model_syntax.specs.declared.expr.Expr.{Expr}
use Rattle.model_syntax.specs.declared.stmt.Le.{Le}
use Rattle.side_certs.specs.LinearForm.{LinearForm}
use Rattle.side_certs.specs.declared.certificate.Cert.{Cert}
use Rattle.sym_heap.specs.Ends.{Standing, standing, restored}
use Rattle.deriv_tree.specs.declared.rule.Rule.TheVariants.{SIf}
use Rattle.deriv_tree.specs.declared.tree.ExprNode.{ExprNode}
use Rattle.deriv_tree.specs.declared.tree.StmtNode.{StmtNode}
use Rattle.expr_rules.specs.Words.{Rule}
use Rattle.stmt_rules.specs.Nesting.{end_form, unlisted_kept}
use Rattle.stmt_rules.specs.rules.If as if_rule
use Rattle.derive_search.specs.declared.branching.Side.{Side}
use Rattle.derive_search.specs.Words.{Seek, ◌>>=◌, in_context}
use Rattle.derive_search.specs.Kept.{certificates}
use Rattle.derive_search.specs.Expressions.{seek}
use Rattle.derive_search.specs.Guide.{Guide}
use Rattle.derive_search.specs.Nodes.{Adds, stuck, node_with, block, ended, in_order}

-- a side begins: what stood before it
abbrev pub side_begun : ℕ → Refusal → List Name → List LinearForm → Rule Standing
side_begun at refusal names facts c = ended refusal (standing c) (if_rule.begins at names facts c.scalars c)

-- what was found of the side, where its kept facts have certificates
abbrev pub side_found : Refusal → Standing → List StmtNode → Option (List Cert) → Rule Side
side_found refusal before nodes None c = Err refusal
side_found refusal before nodes (Some certs) c =
    Ok (record { nodes = nodes; certs = certs; at_end = standing c }, restored before c)

-- a side ends, before which this stood; the context goes back to it
abbrev pub side_ended : Refusal → List Name → List Le → Standing → List StmtNode → Rule Side
side_ended refusal names keep before nodes c =
    if unlisted_kept names before.clauses c.clauses
    then side_found refusal before nodes (certificates c (end_form names c.scalars before.scalars) keep) c
    else Err refusal

-- the node over both sides
abbrev pub branch : ExprNode → Side → Side → StmtNode
branch test one two = node_with SIf [] (one.certs ++ two.certs) (test ∷ []) (block one.nodes ∷ block two.nodes ∷ [])

-- both sides are done, and their ends meet
abbrev pub met : ℕ → Refusal → List Name → List Le → ExprNode → Side → Side → Rule StmtNode
met at refusal names keep test one two c =
    ended refusal (branch test one two) (if_rule.joins at names keep one.at_end two.at_end c)

-- Goals.

-- a side, of whose block are given the searches of its statements
abbrev pub seek_side : Guide → ℕ → ℕ → List Name → List Le → List LinearForm → List Adds → Seek Side
seek_side guide at stmt names keep facts ts = do
  before ← in_context (side_begun at (stuck stmt) names facts)
  nodes ← in_order ts []
  in_context (side_ended (stuck stmt) names keep before nodes)

abbrev pub seek_if : Guide → ℕ → ℕ → ℕ → Expr → List Name → List Le → List Adds → List Adds → Seek StmtNode
seek_if guide deep at stmt test names keep first second = do
  f ← seek guide deep stmt test
  one ← seek_side guide at stmt names keep f.out.yes first
  two ← seek_side guide at stmt names keep f.out.no second
  in_context (met at (stuck stmt) names keep f.node one two)
