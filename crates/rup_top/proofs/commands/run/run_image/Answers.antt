use Rattle.std.proofs.Common.{ap, length, arith}
use Rattle.std.proofs.lemmas.Result.{err_from_is_err_and}
use Rattle.image_layout.proofs.laws.Length.{params_most}
use Rattle.run_setup.specs.Loading.{loaded}
use Rattle.rup_top.specs.commands.Run.{RunsFrom}
use Rattle.rup_top.proofs.Steps.{arguments_break}
use Rattle.rup_top.proofs.commands.run.run_image.Goals as goal

pub returns-in_err-args-clause-follows : goal.returns-in_err-args-clause-follows
returns-in_err-args-clause-follows g c =
    let p = err_from_is_err_and c.from_residual.result c.from_residual.ensures.1 in
    rw (p.1, p.2) (arguments_break _ _ _ _ (λ args a. RunsFrom c.args.image.now args (loaded c.args.image.now args) a) _
    c.in_err-args.field-0.0 c.as_slice.ensures c.in_err-args.ensures.err)

pub take_args-requires-clause-places : goal.take_args-requires-clause-places
take_args-requires-clause-places g c = let count = ap length c.as_slice.ensures in
    omega (arith, count, params_most c.args.image.now c.requires.limits)
