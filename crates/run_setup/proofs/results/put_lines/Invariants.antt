use Rattle.std.proofs.Common.{◌≡◌, ◌++◌, length}
use Rattle.run_setup.specs.Results as spec
use Rattle.run_setup.proofs.results.put_lines.Given as goal

abbrev pub invariant-results : goal.invariant-results
invariant-results l = l.out ++ spec.lines_of l.left ≡ l.fn.out ++ spec.lines_of l.results

abbrev pub decreases-results : goal.decreases-results
decreases-results l = length l.left
