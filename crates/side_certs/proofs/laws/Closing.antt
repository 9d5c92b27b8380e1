-- A goal that a certificate closes is at least 0 wherever the facts are and no symbol passes its top.
use Rattle.side_certs.specs.Closes.{ClosingGivesGoal}
use Rattle.side_certs.proofs.Cancelling.{goal_holds}

pub closed_holds : ClosingGivesGoal
closed_holds = goal_holds
