-- The notes before a statement: for each note lemma in order whose shape fits the statement, each of its facts in order gets a
-- node of the rule of notes where it may have one. Other facts are skipped. A note is counted where it is given.
use Rattle.std.specs.Prelude.{ℤ, Bool, true, ◌&&◌, List, [], ◌∷◌, ◌++◌, map, Option, Some, None, option_map, option_and_then}
use Rattle.std.specs.Prelude.{is_some, Ok, if◌then◌else◌}
use Rattle.model_syntax.specs.Linear.{is_narrow}
use Rattle.model_syntax.specs.declared.stmt.Le.{Le}
use Rattle.model_syntax.specs.declared.stmt.Lin.{Lin, Lin-F, fold-Lin}
use Rattle.model_syntax.specs.declared.stmt.Lin.TheOpen as l
use Rattle.model_syntax.specs.declared.stmt.Stmt.{Stmt-F}
use Rattle.side_certs.specs.LinearForm.{LinearForm, within}
use Rattle.sym_heap.specs.Context.{Context, scalar, has_room, with_fact}
use Rattle.sym_heap.specs.Sides.{form_in, difference}
use Rattle.lemma_files.specs.Fits.{fits_layer}
use Rattle.lemma_files.specs.declared.terms.Lemma.{Lemma}
use Rattle.lemma_files.specs.declared.terms.Lemma.TheVariants.{Rewrite, Note}
use Rattle.deriv_tree.specs.declared.rule.Rule.TheVariants.{SNote}
use Rattle.deriv_tree.specs.declared.tree.StmtNode.{StmtNode}
use Rattle.expr_rules.specs.Words.{Rule}
use Rattle.stmt_rules.specs.Words.{flat}
use Rattle.derive_search.specs.declared.notes.Noted.{Noted}
use Rattle.derive_search.specs.Words.{give, enter, in_context}
use Rattle.derive_search.specs.Rows.{certificate}
use Rattle.derive_search.specs.Trips.{as_args}
use Rattle.derive_search.specs.Nodes.{Adds, node, in_order}

-- What is noted of a fact.

-- each name of a side is a scalar in scope
abbrev pub in_scope_step : Context → Lin-F Bool → Bool
in_scope_step c (l.Const n) = true
in_scope_step c (l.Var x) = is_some (scalar c x)
in_scope_step c (l.Sum p q) = p && q
in_scope_step c (l.Scale k p) = p

abbrev pub in_scope : Context → Lin → Bool
in_scope c = fold-Lin Bool (in_scope_step c)

-- both sides speak of scalars in scope, and they and their parts keep the limits of linear forms
abbrev pub may_note : Context → Le → Bool
may_note c fact = (in_scope c fact.low && in_scope c fact.high) && is_narrow fact

-- a form as arguments, and as it is read from them again, with its certificate, where there is room for the fact
abbrev pub with_form : Context → List ℤ → Option LinearForm → Option Noted
with_form c args None = None
with_form c args (Some f) =
    if has_room c then option_map (λ k. record { args = args; form = f; cert = k }) (certificate c f) else None

abbrev pub of_form : Context → LinearForm → Option Noted
of_form c f = with_form c (as_args f) (flat (as_args f))

-- the note of a fact, with the forms that the scalars have, where these make a form within the limits
abbrev pub note_of : Context → Le → Option Noted
note_of c fact = if may_note c fact then option_and_then (of_form c) (within (difference (form_in c.scalars) fact)) else None

-- Nodes.

abbrev pub note_node : Noted → StmtNode
note_node n = node SNote n.args (n.cert ∷ []) []

-- the node goes behind the others, and the form becomes a fact
abbrev pub taken : Noted → List StmtNode → Rule (List StmtNode)
taken n done c = Ok (done ++ note_node n ∷ [], with_fact n.form c)

-- a fact that is skipped is not counted
abbrev pub given : Option Noted → Adds
given None done = give done
given (Some n) done = enter (λ at. in_context (taken n done))

abbrev pub noted : Le → Adds
noted fact done s = given (note_of s.ctx fact) done s

-- Lemmas.

-- what a lemma notes before a statement; a rewriting notes nothing
abbrev pub notes_of : {A : Type 0} → Stmt-F A → Lemma → Adds
notes_of t (Rewrite x pattern steps) = give
notes_of t (Note x shape facts) = if fits_layer shape t then in_order (map noted facts) else give

abbrev pub notes_before : {A : Type 0} → List Lemma → Stmt-F A → Adds
notes_before lemmas t = in_order (map (notes_of t) lemmas)
