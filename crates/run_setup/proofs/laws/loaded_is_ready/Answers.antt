use Rattle.run_setup.proofs.Loaded.{loaded_is_ready}
use Rattle.run_setup.proofs.laws.loaded_is_ready.Goals as goal

pub returns : goal.returns
returns c = loaded_is_ready
