use Rattle.std.proofs.Common.{◌≡◌, ◌++◌, drop}
use Rattle.reg_alloc.proofs.marks.copy.Given as goal

abbrev pub invariant-loop-live : goal.invariant-loop-live
invariant-loop-live l = l.all.items ++ drop l.live-index l.set ≡ l.set
