use Rattle.std.proofs.Common.{length}
use Rattle.stmt_rules.proofs.loops.+all_kept_but.Given as goal

abbrev pub decreases-all_kept_but : goal.decreases-all_kept_but
decreases-all_kept_but l = length l.facts.now
