-- The search over s-map: the locals, what the rule asks before the kid, the kid, and the rule's end.
use Rattle.std.specs.Prelude.{ℕ, ℤ, pos, List, [], ◌∷◌, Option, Some, None, Result, Ok, Err}
use Rattle.rup_base.specs.declared.refusal.Refusal.{Refusal}
use Rattle.model_syntax.specs.Names.{Name}
use Rattle.model_syntax.specs.declared.expr.Expr.{Expr}
use Rattle.sym_heap.specs.declared.parts.Clause.{Clause}
use Rattle.sym_heap.specs.Context.{Context}
use Rattle.sym_heap.specs.Ends.{Standing}
use Rattle.deriv_tree.specs.declared.rule.Rule.TheVariants.{SMap}
use Rattle.deriv_tree.specs.declared.tree.ExprNode.{ExprNode}
use Rattle.deriv_tree.specs.declared.tree.StmtNode.{StmtNode}
use Rattle.expr_rules.specs.Words.{Rule}
use Rattle.stmt_rules.specs.declared.loops.ElementLocals.{ElementLocals}
use Rattle.stmt_rules.specs.rules.Map as map_rule
use Rattle.derive_search.specs.declared.found.Found.{Found}
use Rattle.derive_search.specs.declared.mapping.MapStart.{MapStart}
use Rattle.derive_search.specs.Words.{Seek, ◌>>=◌, in_context}
use Rattle.derive_search.specs.Expressions.{seek}
use Rattle.derive_search.specs.Guide.{Guide}
use Rattle.derive_search.specs.Locals.{Homes}
use Rattle.derive_search.specs.Elements.{map_locals}
use Rattle.derive_search.specs.Opening.{map_opens}
use Rattle.derive_search.specs.Nodes.{stuck, node, ended}

abbrev pub map_started : Refusal → ElementLocals → Result ((Clause × Standing) × Context) Refusal
    → Result (MapStart × Context) Refusal
map_started refusal l (Ok p) = Ok (record { locals = l; clause = p.0.0; before = p.0.1 }, p.1)
map_started refusal l (Err other) = Err refusal

-- up to the kid, where there are locals
abbrev pub map_with : ℕ → Refusal → Name → Name → Option ElementLocals → Rule MapStart
map_with at refusal a x None c = Err refusal
map_with at refusal a x (Some l) c = map_started refusal l (map_opens at a x l c)

abbrev pub map_begun : Homes → ℕ → Refusal → Name → Name → Rule MapStart
map_begun h at refusal a x c = map_with at refusal a x (map_locals h x c) c

-- the locals as arguments
abbrev pub map_args : ElementLocals → List ℤ
map_args l = pos l.count ∷ pos l.last ∷ pos l.element ∷ []

abbrev pub map_node : ElementLocals → ExprNode → StmtNode
map_node l kid = node SMap (map_args l) [] (kid ∷ [])

-- after the kid
abbrev pub mapped : ℕ → Refusal → Name → MapStart → Found → Rule StmtNode
mapped at refusal a o f c = ended refusal (map_node o.locals f.node) (map_rule.after at a o.locals o.clause o.before f.out.code c)

abbrev pub seek_map : Guide → ℕ → ℕ → ℕ → Name → Name → Expr → Seek StmtNode
seek_map guide deep at stmt a x v = do
  o ← in_context (map_begun guide.homes at (stuck stmt) a x)
  f ← seek guide deep stmt v
  in_context (mapped at (stuck stmt) a o f)
