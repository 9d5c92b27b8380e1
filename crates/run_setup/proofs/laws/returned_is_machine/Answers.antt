use Rattle.rv_machine.proofs.laws.Kept.{kept-after}
use Rattle.run_setup.proofs.laws.returned_is_machine.Goals as goal

pub returns : goal.returns
returns c m i args start s ready r = kept-after r.steps s r.end ready.machine r.ran
