use Rattle.std.proofs.Common.{◌∙◌}
use Rattle.std.proofs.lemmas.Result.{err_from_is_err_and}
use Rattle.rup_top.specs.Frame.{exactly}
use Rattle.rup_top.specs.commands.Eval.{eval_answer}
use Rattle.rup_top.proofs.Steps.{arguments_break}
use Rattle.rup_top.proofs.commands.eval.eval_model.Goals as goal

pub returns-in_err-args-clause-follows : goal.returns-in_err-args-clause-follows
returns-in_err-args-clause-follows g c =
    let p = err_from_is_err_and c.from_residual-in_err-args.result c.from_residual-in_err-args.ensures.1 in
    rw (p.1, p.2) (arguments_break _ _ _ _ (λ args a. exactly (eval_answer c.args.typed.now.inner args) a) _
    c.in_err-args.field-0.0 (c.as_slice.ensures ∙ c.in_ok-kinds.ensures.kinds) c.in_err-args.ensures.err)
