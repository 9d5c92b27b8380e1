use Rattle.std.proofs.Common.{◌≡◌, ◌+◌, ◌++◌}
use Rattle.run_setup.specs.Results as spec
use Rattle.run_setup.proofs.results.bytes_at.Given as goal

abbrev pub invariant-bytes : goal.invariant-bytes
invariant-bytes l =
    record {
      left : l.bytes ++ spec.bytes_at l.mem l.at l.left ≡ spec.bytes_at l.mem l.address l.count;
      end : l.at + l.left ≡ l.address + l.count;
    }

abbrev pub decreases-bytes : goal.decreases-bytes
decreases-bytes l = l.left
