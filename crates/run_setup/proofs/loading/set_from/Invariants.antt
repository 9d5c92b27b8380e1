use Rattle.std.proofs.Common.{◌≡◌, ◌+◌, length}
use Rattle.run_setup.specs.Loading as spec
use Rattle.run_setup.proofs.loading.set_from.Given as goal

abbrev pub invariant-values : goal.invariant-values
invariant-values l =
    record {
      left : spec.set_from l.regs l.register l.left ≡ spec.set_from l.fn.regs 10 l.values;
      count : l.register + length l.left ≡ 10 + length l.values;
    }

abbrev pub decreases-values : goal.decreases-values
decreases-values l = length l.left
