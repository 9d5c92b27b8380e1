use Rattle.std.proofs.Common.{◌≡◌, ◌+◌, drop}
use Rattle.sym_heap.specs.Start.{registers}
use Rattle.replayer.proofs.limits.registers.Given as goal

abbrev pub invariant-loop-param : goal.invariant-loop-param
invariant-loop-param l = l.count + registers (drop l.param-index l.params) ≡ registers l.params
