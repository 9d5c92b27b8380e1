use Rattle.std.proofs.Common.{◌≡◌, ◌++◌, length}
use Rattle.expr_rules.specs.rules.Tab as spec
use Rattle.expr_rules.proofs.rules.tab.text.Given as goal

abbrev pub invariant-entries : goal.invariant-entries
invariant-entries l = l.text ++ spec.text l.scalar l.left ≡ spec.text l.scalar l.entries

abbrev pub decreases-entries : goal.decreases-entries
decreases-entries l = length l.left
