use Rattle.std.proofs.Common.{◌∙◌, ap}
use Rattle.rup_top.specs.commands.Run.{budget_of}
use Rattle.rup_top.proofs.shown.Run.{run_ends}
use Rattle.rup_top.proofs.commands.run.run_machine.Goals as goal

pub returns : goal.returns
returns c =
    run_ends c.args.image.now c.args.args.now _ c.run-end.result _ c.budget.result c.answer_for.result c.requires.limits
    c.requires.machine (c.budget.ensures ∙ ap budget_of c.in_ok-bound.ensures) c.run-end.ensures c.answer_for.ensures
