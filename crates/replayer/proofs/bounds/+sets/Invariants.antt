use Rattle.std.proofs.Common.{length}
use Rattle.replayer.proofs.bounds.+sets.Given as goal

abbrev pub decreases-sets : goal.decreases-sets
decreases-sets l = length l.cmds.now
