use Rattle.std.proofs.Common.{◌≡◌, ◌∙◌, ap, ℕ, List, [], ◌∷◌, ◌++◌}
use Rattle.std.proofs.lemmas.Result.{err_from_is_err_and}
use Rattle.bed_syntax.specs.Spelling.{cmd_text}
use Rattle.rup_top.specs.Answer.{line}
use Rattle.rup_top.specs.Words.{most_size}
use Rattle.rup_top.specs.commands.Code.{Prints}
use Rattle.rup_top.proofs.shown.Derivations.{refuses}
use Rattle.rup_top.proofs.shown.Code.{prints}
use Rattle.rup_top.proofs.commands.code.reply.Goals as goal

pub returns-in_err-accepted : goal.returns-in_err-accepted
returns-in_err-accepted c =
    let p = err_from_is_err_and c.from_residual.result c.from_residual.ensures.1 in
    rw (p.1, p.2) (refuses Prints most_size c.args.model.now c.args.tree.now c.in_err-accepted.field-0.0
    c.in_err-accepted.ensures.refuses)

pub returns : goal.returns
returns c =
    let text_is : c.push.new.self ≡ line (cmd_text c.in_ok-accepted.accepted.checked.command.command) =
    c.in_ok-push.ensures.appended ∙ ap (λ (t : List ℕ). t ++ 10 ∷ []) c.in_ok-text.ensures in
    prints c.args.model.now c.args.tree.now c.in_ok-accepted.accepted.typed.inner c.in_ok-accepted.accepted.checked
    c.push.new.self c.new.result c.done.result c.in_ok-accepted.ensures.accepts text_is
    c.new.ensures c.done.ensures
