use Rattle.rup_top.proofs.Agreeing.{run_is_eval}
use Rattle.rup_top.proofs.laws.run_is_eval.Goals as goal

pub returns : goal.returns
returns c = run_is_eval
