use Rattle.run_setup.proofs.laws.Served.{good_is_served}
use Rattle.run_setup.proofs.laws.good_is_served.Goals as goal

pub returns : goal.returns
returns c = good_is_served
