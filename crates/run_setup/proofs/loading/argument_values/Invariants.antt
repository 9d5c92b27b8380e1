use Rattle.std.proofs.Common.{◌≡◌, ◌≤◌, ◌+◌, ◌*◌, ◌++◌, length}
use Rattle.run_setup.specs.Judging.{total_size}
use Rattle.run_setup.specs.Loading as spec
use Rattle.run_setup.proofs.loading.argument_values.Given as goal

abbrev pub invariant-each : goal.invariant-each
invariant-each l =
    record {
      left : l.values ++ spec.argument_values l.end l.kinds_left l.args_left ≡ spec.argument_values l.fn.end l.kinds l.args;
      near : l.end + 16 * length l.args_left + total_size l.args_left ≤ l.fn.end + 16 * length l.args + total_size l.args;
    }

abbrev pub decreases-each : goal.decreases-each
decreases-each l = length l.args_left
