use Rattle.side_certs.proofs.Cancelling.{goal_holds}
use Rattle.side_certs.proofs.laws.closing_gives_goal.Goals as goal

pub returns : goal.returns
returns c = goal_holds
