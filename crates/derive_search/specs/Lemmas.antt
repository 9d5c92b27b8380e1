-- What lemmas do at the goal of an expression: the first that rewrites it
-- in as few steps as are left does, and each of its steps is
-- a node of the rule of equations.
use Rattle.std.specs.Prelude.{ℕ, pos, nat_le, List, [], ◌∷◌, length, Option, Some, None, option_and_then, Err, if◌then◌else◌}
use Rattle.std.specs.Option.{option_or}
use Rattle.rup_base.specs.declared.refusal.Refusal.{Refusal}
use Rattle.model_syntax.specs.declared.expr.Expr.{Expr}
use Rattle.equations.specs.Book.{Turn}
use Rattle.lemma_files.specs.Steps.{expand}
use Rattle.lemma_files.specs.declared.terms.Lemma.{Lemma}
use Rattle.deriv_tree.specs.declared.rule.Rule.TheVariants.{ERw}
use Rattle.deriv_tree.specs.declared.tree.ExprNode.{ExprNode, roll-ExprNode}
use Rattle.expr_rules.specs.rules.Rw.{step_of}
use Rattle.derive_search.specs.declared.found.Found.{Found}
use Rattle.derive_search.specs.Words.{Seek, ◌>>=◌, give, enter}

-- the steps, where they are at most so many
abbrev pub at_most : ℕ → List ℕ → Option (List ℕ)
at_most room steps = if nat_le (length steps) room then Some steps else None

-- the steps of the first lemma whose pattern matches, whose steps are at most so many, and each of whose steps applies in turn
abbrev pub rewriting : Turn → ℕ → Expr → List Lemma → Option (List ℕ)
rewriting turn room e [] = None
rewriting turn room e (l ∷ ls) = option_or (option_and_then (at_most room) (expand turn l e)) (rewriting turn room e ls)

-- what the rule of equations makes of an expression by a step
abbrev pub stepped : Turn → ℕ → Expr → Option Expr
stepped turn step e = option_and_then (λ n. turn n e) (step_of (pos step ∷ []))

-- the node of a step, whose kid is for what the step makes of the expression
abbrev pub step_node : ℕ → ExprNode → ExprNode
step_node step kid = roll-ExprNode (record { step = record { rule = ERw; args = pos step ∷ []; certs = [] }; kids = kid ∷ [] })

abbrev pub over_step : ℕ → Found → Found
over_step step f = record { node = step_node step f.node; out = f.out }

-- where there is one, the search goes on with it
abbrev pub where_some : {A B : Type 0} → Refusal → Option A → (A → Seek B) → Seek B
where_some refusal None next s = Err refusal
where_some refusal (Some a) next s = next a s

-- the goals that these steps lead to one after the other, each of which is entered, and then the last one; where a step does not
-- apply, which is never so of the steps of a lemma that is taken, the goal is refused
abbrev pub by_steps : Turn → (Expr → Refusal) → (Expr → Seek Found) → List ℕ → Expr → Seek Found
by_steps turn refusal last [] e = last e
by_steps turn refusal last (step ∷ steps) e = enter (λ at. where_some (refusal e) (stepped turn step e) (λ y. do
  f ← by_steps turn refusal last steps y
  give (over_step step f)))
