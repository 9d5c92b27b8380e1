use Rattle.std.proofs.Common.{◌≡◌, false, replicate}
use Rattle.reg_alloc.proofs.marks.empty.Given as goal

abbrev pub invariant-loop : goal.invariant-loop
invariant-loop l = l.set.items ≡ replicate l.counter false
