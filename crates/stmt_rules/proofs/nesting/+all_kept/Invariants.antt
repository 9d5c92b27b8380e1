use Rattle.std.proofs.Common.{length}
use Rattle.stmt_rules.proofs.nesting.+all_kept.Given as goal

abbrev pub decreases-all_kept : goal.decreases-all_kept
decreases-all_kept l = length l.facts.now
