use Rattle.std.proofs.Common.{List, ℕ, refl, inl}
use Rattle.std.proofs.lemmas.Result.{err_from_is_err_and}
use Rattle.rup_top.specs.Frame.{Script, asks, comes_to}
use Rattle.rup_top.specs.Inputs.{tree_limit}
use Rattle.rup_top.specs.commands.Derivations.{Judged}
use Rattle.rup_top.specs.commands.Replay.{Replays}
use Rattle.rup_top.proofs.Steps.{fetch_breaks, gives_with, fetch_answers, stops_with, then_next}
use Rattle.rup_top.proofs.commands.replay.replay.Goals as goal

abbrev behind_model : ℕ → List ℕ → List ℕ → Script
behind_model size tree m = asks 2 tree tree_limit (λ t. comes_to (λ a. Judged Replays size m t a))

pub returns-in_err-model-clause-follows : goal.returns-in_err-model-clause-follows
returns-in_err-model-clause-follows g c =
    let p = err_from_is_err_and c.from_residual.result c.from_residual.ensures.1 in
    rw (p.1, p.2) (fetch_breaks _ _ _ (λ m. behind_model c.args.size c.args.tree.now m) _ c.in_err-model.field-0.0
    c.in_err-model.ensures.err)

pub returns-in_err-tree-clause-follows : goal.returns-in_err-tree-clause-follows
returns-in_err-tree-clause-follows g c =
    let p = err_from_is_err_and c.from_residual-in_err-tree.result c.from_residual-in_err-tree.ensures.1 in
    rw (p.1, p.2)
    (stops_with _ _ c.in_err-tree.field-0.0
    (λ a answers. then_next _ _ _ (λ m. behind_model c.args.size c.args.tree.now m) _ _ _ _ _ _ _ _ a c.in_ok-model.model
    c.in_ok-model.model refl c.fetch_word.ensures.held c.in_ok-model.ensures.ok
    (fetch_answers _ _ _ (λ t. comes_to (λ b. Judged Replays c.args.size c.in_ok-model.model t b)) _ a answers))
    c.in_err-tree.ensures.err)

pub returns-clause-follows : goal.returns-clause-follows
returns-clause-follows g c =
    gives_with _ _ c.reply.result
    (λ a judged. then_next _ _ _ (λ m. behind_model c.args.size c.args.tree.now m) _ _ _ _ _ _ _ _ a c.in_ok-model.model
    c.as_slice.result.now c.as_slice.ensures c.fetch_word.ensures.held c.in_ok-model.ensures.ok
    (then_next _ _ _ (λ t. comes_to (λ b. Judged Replays c.args.size c.as_slice.result.now t b)) _ _ _ _ _ _ _ _ a
    c.in_ok-tree.tree c.as_slice-2.result.now c.as_slice-2.ensures c.fetch_word-2.ensures.held c.in_ok-tree.ensures.ok
    (inl (record { comes = judged; still = record { same_count = refl; same_last = refl } }))))
    c.reply.ensures
