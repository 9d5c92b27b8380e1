use Rattle.std.proofs.Common.{◌≡◌, ◌<◌, ◌+◌, ◌^◌, length}
use Rattle.run_setup.specs.Judging as spec
use Rattle.run_setup.proofs.judging.total_size.Given as goal

abbrev pub invariant-each : goal.invariant-each
invariant-each l =
    record {
      left : spec.capped (l.total + spec.total_size l.left) ≡ spec.capped (spec.total_size l.args);
      small : l.total < 2 ^ 64;
    }

abbrev pub decreases-each : goal.decreases-each
decreases-each l = length l.left
