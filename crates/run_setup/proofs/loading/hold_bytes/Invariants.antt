use Rattle.std.proofs.Common.{length}
use Rattle.std.specs.List.{AllByRecursion}
use Rattle.run_setup.specs.Loading.{AreBytes}
use Rattle.run_setup.proofs.loading.hold_bytes.Given as goal

abbrev pub invariant-each : goal.invariant-each
invariant-each l = AllByRecursion (λ r. AreBytes r.1) l.left → AllByRecursion (λ r. AreBytes r.1) l.regions

abbrev pub decreases-each : goal.decreases-each
decreases-each l = length l.left
