use Rattle.std.proofs.Common.{refl, ap, ◌∙◌, ◌≡◌, ◌+◌, length}
use Rattle.model_syntax.specs.Names.{first_names}
use Rattle.model_syntax.specs.declared.program.Model.{Model}
use Rattle.sym_heap.specs.Context.{Context}
use Rattle.sym_heap.specs.Ends.{Standing}
use Rattle.sym_heap.specs.Start.{start, next_local}
use Rattle.deriv_tree.specs.Shape.{most_nodes}
use Rattle.derive_search.proofs.Starting.{derived_from}
use Rattle.derive_search.proofs.derivation.derived.Goals as goal

pub returns : goal.returns
returns g c =
    let m : Model = c.args.m.now.inner in
    let same = c.model-model.ensures.model in
    let context_is : c.in_ok-ctx.ctx ≡ start m = c.in_ok-ctx.ensures ∙ ap start same in
    let params_are : c.scalars.result.now ≡ (start m).scalars =
    c.scalars.ensures ∙ ap (λ (s : Standing). s.scalars) c.in_ok-start.ensures ∙ ap (λ (x : Context). x.scalars) context_is in
    let names_are : c.as_slice.result.now ≡ first_names m = c.as_slice.ensures.keys ∙ c.in_ok-names.ensures ∙ ap first_names same
    in
    let scalars_are = c.scalars-2.ensures ∙ ap (λ (x : Context). x.scalars) context_is in
    let clauses_are = c.clauses.ensures ∙ ap (λ (x : Context). x.clauses) context_is in
    let args_are : length c.scalars-2.result.now + length c.clauses.result.now
    ≡ next_local (start m) = rw (scalars_are, clauses_are) refl in
    derived_from most_nodes c.args.lemmas.now (g.B.Book.turn c.args.book.now) m c.model-model.result.now c.in_ok-ctx.ctx
    c.scalars.result.now c.as_slice.result.now
    (length c.scalars-2.result.now + length c.clauses.result.now) c.search.result same context_is params_are names_are args_are
    c.search.ensures
