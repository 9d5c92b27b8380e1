use Rattle.std.proofs.Common.{◌≡◌, ◌+◌, ◌≤◌, ◌++◌, length}
use Rattle.image_layout.specs.Reading.{scalars}
use Rattle.rv_machine.specs.View.{state_of}
use Rattle.run_setup.specs.Results as spec
use Rattle.run_setup.proofs.results.read_results.Given as goal

abbrev pub invariant-rets : goal.invariant-rets
invariant-rets l =
    record {
      left : l.results ++ spec.results_from (state_of l.m) l.i l.args l.register l.left
          ≡ spec.results_of (state_of l.m) l.i l.args;
      room : l.register + scalars l.left ≤ 12;
      first : 10 ≤ l.register;
    }

abbrev pub decreases-rets : goal.decreases-rets
decreases-rets l = length l.left
