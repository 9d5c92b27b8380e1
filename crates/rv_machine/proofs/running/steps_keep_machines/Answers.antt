use Rattle.rv_machine.proofs.laws.Kept.{kept-after}
use Rattle.rv_machine.proofs.running.steps_keep_machines.Goals as goal

pub returns : goal.returns
returns c = kept-after
