use Rattle.std.proofs.Common.{◌≡◌, ◌≤◌, ◌+◌, ◌*◌, ◌++◌, length}
use Rattle.run_setup.specs.Judging.{total_size}
use Rattle.run_setup.specs.Loading as spec
use Rattle.run_setup.proofs.loading.put_arrays.Given as goal

abbrev pub invariant-each : goal.invariant-each
invariant-each l =
    record {
      left : l.regions ++ spec.array_regions l.end l.left ≡ l.fn.regions ++ spec.array_regions l.fn.end l.args;
      near : l.end + 16 * length l.left + total_size l.left ≤ l.fn.end + 16 * length l.args + total_size l.args;
    }

abbrev pub decreases-each : goal.decreases-each
decreases-each l = length l.left
