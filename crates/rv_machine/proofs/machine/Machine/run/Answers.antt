use Rattle.std.proofs.Common.{sym}
use Rattle.rv_machine.specs.View.{state_of}
use Rattle.rv_machine.proofs.Reached.{reached_start, reached_more}
use Rattle.rv_machine.proofs.machine.Machine.run.Goals as goal

pub loop-steps-init : goal.loop-steps-init
loop-steps-init c = reached_start c.args.stop (state_of c.args.self.now)

pub loop-steps-preserved : goal.loop-steps-preserved
loop-steps-preserved c =
    reached_more c.args.stop c.loop-steps.steps (state_of c.args.self.now) (state_of c.loop-steps.self) (state_of c.step.new.self)
    c.loop-steps.invariant c.if-self-stop.false (sym c.in_default.ensures.made)
