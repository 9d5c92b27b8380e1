use Rattle.std.proofs.Common.{◌∙◌, ap}
use Rattle.rup_top.specs.commands.Run.{budget_of}
use Rattle.rup_top.proofs.shown.Bench.{bench_ends}
use Rattle.rup_top.proofs.commands.bench.run_on.Goals as goal

pub returns : goal.returns
returns c =
    bench_ends c.in_ok-begun.begun _ c.args.image.now c.args.args.now _ c.budget.result c.run-end.result _ c.answer_for.result
    c.in_ok-begun.ensures c.in_ok-machine.ensures.starts
    c.in_ok-machine.ensures.machine (c.budget.ensures ∙ ap budget_of c.in_ok-bound.ensures) c.run-end.ensures c.answer_for.ensures
