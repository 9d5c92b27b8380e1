use Rattle.run_setup.proofs.laws.Meeting.{judged_is_met}
use Rattle.run_setup.proofs.laws.judged_is_met.Goals as goal

pub returns : goal.returns
returns c = judged_is_met
