use Rattle.rv_machine.specs.View.{state_of}
use Rattle.rv_machine.specs.Run.{Reached}
use Rattle.rv_machine.proofs.machine.Machine.run.Given as goal

abbrev pub invariant-loop-steps : goal.invariant-loop-steps
invariant-loop-steps l = Reached l.stop (state_of l.fn.self) l.steps (state_of l.self)
