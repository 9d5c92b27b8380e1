use Rattle.std.proofs.Common.{◌≡◌}
use Rattle.reg_alloc.specs.Marks.{listed}
use Rattle.reg_alloc.proofs.watch.numbers_in.Given as goal

abbrev pub invariant-loop-v : goal.invariant-loop-v
invariant-loop-v l = l.numbers ≡ listed l.v l.set
