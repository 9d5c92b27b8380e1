use Rattle.std.proofs.Common.{◌≡◌, ◌<◌, ◌^◌, ◌++◌, length}
use Rattle.run_setup.specs.Judging as spec
use Rattle.run_setup.proofs.judging.symbol_values.Given as goal

abbrev pub invariant-each : goal.invariant-each
invariant-each l =
    record {
      left : l.values ++ spec.symbol_values l.kinds_left l.args_left ≡ spec.symbol_values l.kinds l.args;
      small : spec.total_size l.args_left < 2 ^ 32;
    }

abbrev pub decreases-each : goal.decreases-each
decreases-each l = length l.args_left
