-- The search over s-fold: the locals, what the rule asks before the kid, the kid, and the rule's end.
use Rattle.std.specs.Prelude.{ℕ, ℤ, pos, List, [], ◌∷◌, Option, Some, None, Result, Ok, Err}
use Rattle.rup_base.specs.declared.refusal.Refusal.{Refusal}
use Rattle.model_syntax.specs.Names.{Name}
use Rattle.model_syntax.specs.declared.expr.Expr.{Expr}
use Rattle.model_syntax.specs.declared.expr.Scalar.{Scalar}
use Rattle.sym_heap.specs.declared.parts.Clause.{Clause}
use Rattle.sym_heap.specs.Context.{Context}
use Rattle.sym_heap.specs.Ends.{Standing}
use Rattle.deriv_tree.specs.declared.rule.Rule.TheVariants.{SFold}
use Rattle.deriv_tree.specs.declared.tree.ExprNode.{ExprNode}
use Rattle.deriv_tree.specs.declared.tree.StmtNode.{StmtNode}
use Rattle.expr_rules.specs.Words.{Rule}
use Rattle.stmt_rules.specs.declared.loops.FoldLocals.{FoldLocals}
use Rattle.stmt_rules.specs.rules.Fold as fold_rule
use Rattle.derive_search.specs.declared.found.Found.{Found}
use Rattle.derive_search.specs.declared.folding.FoldStart.{FoldStart}
use Rattle.derive_search.specs.Words.{Seek, ◌>>=◌, in_context}
use Rattle.derive_search.specs.Expressions.{seek}
use Rattle.derive_search.specs.Guide.{Guide}
use Rattle.derive_search.specs.Locals.{Homes}
use Rattle.derive_search.specs.Elements.{fold_locals}
use Rattle.derive_search.specs.Opening.{fold_opens}
use Rattle.derive_search.specs.Nodes.{stuck, node, ended}

abbrev pub fold_started : Refusal → FoldLocals → Result ((Clause × (ℕ × Scalar) × Standing) × Context) Refusal
    → Result (FoldStart × Context) Refusal
fold_started refusal l (Ok p) = Ok (record { locals = l; clause = p.0.0; first = p.0.1; before = p.0.2 }, p.1)
fold_started refusal l (Err other) = Err refusal

-- up to the kid, where there are locals
abbrev pub fold_with : ℕ → Refusal → Name → Name → Name → Option FoldLocals → Rule FoldStart
fold_with at refusal s a x None c = Err refusal
fold_with at refusal s a x (Some l) c = fold_started refusal l (fold_opens at s a x l c)

abbrev pub fold_begun : Homes → ℕ → Refusal → Name → Name → Name → Rule FoldStart
fold_begun h at refusal s a x c = fold_with at refusal s a x (fold_locals h s x c) c

-- the locals as arguments, that of the scalar last
abbrev pub fold_args : FoldLocals → List ℤ
fold_args l = pos l.turn.count ∷ pos l.turn.last ∷ pos l.turn.element ∷ pos l.so_far ∷ []

abbrev pub fold_node : FoldLocals → ExprNode → StmtNode
fold_node l kid = node SFold (fold_args l) [] (kid ∷ [])

-- after the kid
abbrev pub folded : ℕ → Refusal → Name → FoldStart → Found → Rule StmtNode
folded at refusal s o f c =
    ended refusal (fold_node o.locals f.node) (fold_rule.after at s o.locals o.clause o.first o.before f.out.code c)

abbrev pub seek_fold : Guide → ℕ → ℕ → ℕ → Name → Name → Name → Expr → Seek StmtNode
seek_fold guide deep at stmt s a x v = do
  o ← in_context (fold_begun guide.homes at (stuck stmt) s a x)
  f ← seek guide deep stmt v
  in_context (folded at (stuck stmt) s o f)
