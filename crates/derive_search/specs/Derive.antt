-- The derivation that the search gives a model, with lemmas and a book of
-- equations: its statements in order from the context at the
-- start, and then what is asked of the end.
use Rattle.std.specs.Prelude.{ℕ, ◌&&◌, Bool, true, false, List, [], ◌∷◌, Result, Ok, Err, if◌then◌else◌}
use Rattle.std.specs.List.{list_all}
use Rattle.rup_base.specs.Answers.{and_then}
use Rattle.rup_base.specs.declared.refusal.Refusal.{Refusal}
use Rattle.rup_base.specs.declared.refusal.Refusal.TheVariants.{Stuck}
use Rattle.rup_base.specs.declared.refusal.Goal.TheVariants as goal
use Rattle.model_syntax.specs.Names.{first_names}
use Rattle.model_syntax.specs.declared.program.Model.{Model}
use Rattle.equations.specs.Book.{Turn}
use Rattle.lemma_files.specs.declared.terms.Lemma.{Lemma}
use Rattle.lemma_files.specs.declared.terms.Lemma.TheVariants.{Rewrite, Note}
use Rattle.sym_heap.specs.Context.{Context}
use Rattle.sym_heap.specs.Start.{start, next_local}
use Rattle.deriv_tree.specs.Shape.{most_nodes}
use Rattle.deriv_tree.specs.declared.tree.StmtNode.{StmtNode}
use Rattle.deriv_tree.specs.declared.tree.Block.{roll-Block}
use Rattle.deriv_tree.specs.declared.tree.Derivation.{Derivation}
use Rattle.replayer.specs.Ends.{are_named, are_kept}
use Rattle.derive_search.specs.declared.seeker.Seeker.{Seeker}
use Rattle.derive_search.specs.Locals.{Homes}
use Rattle.derive_search.specs.Guide.{Guide}
use Rattle.derive_search.specs.Statements.{seek_block}

-- the homes of a model's names; at the start each scalar and each pointer has an argument
abbrev pub homes : Model → Homes
homes m = record { params = (start m).scalars; names = first_names m; args = next_local (start m) }

-- the search at the start
abbrev pub at_start : Model → Seeker
at_start m = record { ctx = start m; entered = 0; stmts = 0 }

-- returned arrays have their names, and no other array was written
abbrev pub is_end : Model → Context → Bool
is_end m c = are_named m.params m.rets c && are_kept m.params m.rets c

abbrev pub derivation : Model → List StmtNode → Derivation
derivation m nodes = record { model = m.name; body = roll-Block (record { nodes = nodes }) }

-- a goal at the end is refused with the number of all statements
abbrev pub finished : Model → List StmtNode → Seeker → Result Derivation Refusal
finished m nodes s = if is_end m s.ctx then Ok (derivation m nodes) else Err (Stuck s.stmts goal.End)

-- the statements in order, with so many levels, and then the end
abbrev pub searched : Guide → ℕ → Model → Seeker → Result Derivation Refusal
searched guide deep m s = and_then (seek_block guide deep m.body s) (λ p. finished m p.0 p.1)

-- what the search of a model goes by
abbrev pub guide_of : List Lemma → Turn → Model → Guide
guide_of lemmas turn m = record { homes = homes m; lemmas = lemmas; turn = turn }

abbrev pub derived_within : ℕ → List Lemma → Turn → Model → Result Derivation Refusal
derived_within deep lemmas turn m = searched (guide_of lemmas turn m) deep m (at_start m)

-- each level enters a node, so that as many levels as nodes are enough
abbrev pub derived : List Lemma → Turn → Model → Result Derivation Refusal
derived lemmas turn m = derived_within most_nodes lemmas turn m

abbrev pub is_full : List ℕ → Bool
is_full [] = false
is_full (step ∷ steps) = true

-- a lemma that rewrites has a step, as each that is read of a file has
abbrev pub has_step : Lemma → Bool
has_step (Rewrite x pattern steps) = is_full steps
has_step (Note x shape facts) = true

abbrev pub have_steps : List Lemma → Bool
have_steps lemmas = list_all has_step lemmas
