use Rattle.std.proofs.Common.{◌≡◌, subst}
use Rattle.std.proofs.lemmas.Result.{err_from_is_err_and}
use Rattle.model_syntax.specs.declared.program.Model.{Model}
use Rattle.rup_top.specs.commands.Replay.{Replays, replay_line}
use Rattle.rup_top.proofs.shown.Derivations.{refuses}
use Rattle.rup_top.proofs.shown.Replay.{replays}
use Rattle.rup_top.proofs.commands.replay.reply.Goals as goal

pub returns-in_err-accepted : goal.returns-in_err-accepted
returns-in_err-accepted c =
    let p = err_from_is_err_and c.from_residual.result c.from_residual.ensures.1 in
    rw (p.1, p.2) (refuses Replays c.args.size c.args.model.now c.args.tree.now c.in_err-accepted.field-0.0
    c.in_err-accepted.ensures.refuses)

pub returns : goal.returns
returns c =
    replays c.args.size c.args.model.now c.args.tree.now c.in_ok-accepted.accepted.typed.inner c.in_ok-accepted.accepted.checked
    c.in_ok-image.image c.in_ok-note.note c.done.result
    c.in_ok-accepted.ensures.accepts c.in_ok-image.ensures.written
    (subst (λ (m : Model). c.in_ok-note.note ≡ replay_line m c.in_ok-accepted.accepted.checked) c.model.ensures.model
    c.in_ok-note.ensures) c.done.ensures
