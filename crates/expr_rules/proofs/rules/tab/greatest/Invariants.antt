use Rattle.std.proofs.Common.{◌≡◌, length, max}
use Rattle.rup_base.specs.Gather.{greatest}
use Rattle.expr_rules.proofs.rules.tab.greatest.Given as goal

abbrev pub invariant-entries : goal.invariant-entries
invariant-entries l = max l.most (greatest l.left) ≡ greatest l.entries

abbrev pub decreases-entries : goal.decreases-entries
decreases-entries l = length l.left
