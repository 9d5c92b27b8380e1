-- The search over expressions: the goals in the order in which they are entered, a goal before its kids and these from left to
-- right, and for each the first lemma that rewrites it, or else the first row that fits.
use Rattle.std.specs.Prelude.{ℕ, zero, suc, ◌+◌, ◌-◌, true, List, [], ◌∷◌, length, Option, Some, None, is_some, Result, Ok, Err}
use Rattle.rup_base.specs.declared.refusal.Refusal.{Refusal}
use Rattle.rup_base.specs.declared.refusal.Refusal.TheVariants.{Stuck}
use Rattle.rup_base.specs.declared.refusal.Goal.TheVariants as goal
use Rattle.sx_text.specs.Spelling.{text}
use Rattle.model_printer.specs.Printing as printing
use Rattle.model_syntax.specs.Names.{Name}
use Rattle.model_syntax.specs.declared.expr.Scalar.{Scalar}
use Rattle.model_syntax.specs.declared.expr.Expr.{Expr, Expr-F, out-Expr}
use Rattle.model_syntax.specs.declared.expr.Expr.TheOpen as e
use Rattle.side_certs.specs.declared.certificate.Cert.{Cert}
use Rattle.sym_heap.specs.Context.{Context, own}
use Rattle.equations.specs.Book.{Turn}
use Rattle.deriv_tree.specs.declared.rule.Rule as deriv
use Rattle.deriv_tree.specs.declared.rule.Rule.TheVariants.{ELit, EVar, ELen, ECmp, ENot, EBoth, EEither, EWord}
use Rattle.deriv_tree.specs.declared.tree.ExprNode.{ExprNode, roll-ExprNode}
use Rattle.expr_rules.specs.Row.{array_length}
use Rattle.expr_rules.specs.rules.Lit as lit
use Rattle.expr_rules.specs.rules.Var as var
use Rattle.expr_rules.specs.rules.Cmp as cmp
use Rattle.expr_rules.specs.rules.Not as negation
use Rattle.expr_rules.specs.rules.Both as both
use Rattle.expr_rules.specs.rules.Either as either
use Rattle.expr_rules.specs.rules.Word as word
use Rattle.expr_rules.specs.rules.Tab as tab
use Rattle.derive_search.specs.declared.found.Found.{Found}
use Rattle.derive_search.specs.Words.{Seek, ◌>>=◌, over, enter, where_holds, in_context}
use Rattle.derive_search.specs.Guide.{Guide}
use Rattle.lemma_files.specs.Lemmas.{most_steps}
use Rattle.derive_search.specs.Lemmas.{rewriting, by_steps}
use Rattle.derive_search.specs.Rows.{Chosen, Candidate, plainly, first, operations, bytes, element, entry}

-- the refusal at a goal of this statement: the expression in its canonical spelling
abbrev pub stuck : ℕ → Expr → Refusal
stuck stmt e = Stuck stmt (goal.Expr (text (printing.expr e)))

-- a node without arguments
abbrev pub node : deriv.Rule → List Cert → List ExprNode → ExprNode
node rule certs kids = roll-ExprNode (record { step = record { rule = rule; args = []; certs = certs }; kids = kids })

abbrev pub ended : Refusal → List ExprNode → Option (Chosen × Context) → Result (Found × Context) Refusal
ended refusal kids None = Err refusal
ended refusal kids (Some p) = Ok (record { node = node p.0.rule p.0.certs kids; out = p.0.out }, p.1)

-- the node of the first row that fits, over these kids
abbrev pub chosen : Refusal → List ExprNode → List Candidate → Context → Result (Found × Context) Refusal
chosen refusal kids tries c = ended refusal kids (first tries c)

abbrev pub taken : Refusal → List ExprNode → List Candidate → Seek Found
taken refusal kids tries = in_context (chosen refusal kids tries)

-- the element of an index, where the name is an array's
abbrev pub in_array : (Expr → Seek Found) → Refusal → ℕ → Name → Expr → Seek Found
in_array next refusal at a i = where_holds (λ c. is_some (own c a)) refusal (do
  p ← next i
  taken refusal (p.node ∷ []) (element at a p.out ∷ []))

-- the entry of an index, where the table has no more entries than one of a model within its limits
abbrev pub in_table : (Expr → Seek Found) → Refusal → ℕ → Scalar → List ℕ → Expr → Seek Found
in_table next refusal at t ns i = where_holds (λ c. tab.is_small ns) refusal (do
  p ← next i
  taken refusal (p.node ∷ []) (entry at t ns p.out ∷ []))

-- the goals of an expression's kids and then its own row; `next` is the search of a kid, `refusal` what the goal is refused with,
-- and `at` the number of its node
abbrev pub parts : (Expr → Seek Found) → Refusal → ℕ → Expr-F Expr → Seek Found
parts next refusal at (e.Lit n) = taken refusal [] (plainly ELit (lit.after at n) ∷ [])
parts next refusal at (e.Var x) = taken refusal [] (plainly EVar (var.after at x) ∷ [])
parts next refusal at (e.Length a) = taken refusal [] (plainly ELen (array_length at a true) ∷ [])
parts next refusal at (e.Bin o x y) = do
  a ← next x
  b ← next y
  taken refusal (a.node ∷ b.node ∷ []) (operations at o a.out b.out)
parts next refusal at (e.Test test x y) = do
  a ← next x
  b ← next y
  taken refusal (a.node ∷ b.node ∷ []) (plainly ECmp (cmp.after at test a.out b.out) ∷ [])
parts next refusal at (e.Both x y) = do
  a ← next x
  b ← next y
  taken refusal (a.node ∷ b.node ∷ []) (plainly EBoth (both.after at a.out b.out) ∷ [])
parts next refusal at (e.Either x y) = do
  a ← next x
  b ← next y
  taken refusal (a.node ∷ b.node ∷ []) (plainly EEither (either.after at a.out b.out) ∷ [])
parts next refusal at (e.Not x) = do
  a ← next x
  taken refusal (a.node ∷ []) (plainly ENot (negation.after at a.out) ∷ [])
parts next refusal at (e.ToWord x) = do
  a ← next x
  taken refusal (a.node ∷ []) (plainly EWord (word.after a.out) ∷ [])
parts next refusal at (e.ToByte x) = do
  a ← next x
  taken refusal (a.node ∷ []) (bytes at a.out)
parts next refusal at (e.Get a i) = in_array next refusal at a i
parts next refusal at (e.Tab t ns i) = in_table next refusal at t ns i

-- a goal that no lemma rewrites
abbrev pub with_row : (Expr → Seek Found) → ℕ → Expr → Seek Found
with_row next stmt e = enter (λ at. parts next (stuck stmt e) at (out-Expr e))

-- a goal directly inside so many nodes of the rule of equations, with the
-- steps by which a lemma rewrites it, if one does: they lead
-- to a new goal; else the goals of its kids and its own row
abbrev pub by_lemma : Turn → (ℕ → Expr → Seek Found) → ℕ → ℕ → Expr → Option (List ℕ) → Seek Found
by_lemma turn next stmt above e None = with_row (next 0) stmt e
by_lemma turn next stmt above e (Some steps) = by_steps turn (stuck stmt) (next (above + length steps)) steps e

-- The goal of an expression in a statement of this number, directly
-- inside so many nodes of the rule of equations. The level counts
-- the goals with a row of their own and the lemmas that may be taken
-- inside one another; with as many as there are nodes it is never
-- seen, since each of these enters one, a lemma having a step.
abbrev pub goal_of : Guide → ℕ → ℕ → ℕ → Expr → Seek Found
goal_of g zero stmt above e s = Err over
goal_of g (suc deep) stmt above e s =
    by_lemma g.turn (goal_of g deep stmt) stmt above e (rewriting g.turn (most_steps - above) e g.lemmas) s

abbrev pub seek : Guide → ℕ → ℕ → Expr → Seek Found
seek g deep stmt = goal_of g deep stmt 0
