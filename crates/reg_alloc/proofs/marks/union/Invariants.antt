use Rattle.std.proofs.Common.{◌≡◌, ◌++◌, drop}
use Rattle.reg_alloc.specs.Marks.{either}
use Rattle.reg_alloc.proofs.marks.union.Given as goal

abbrev pub invariant-loop-v : goal.invariant-loop-v
invariant-loop-v l = l.all.items ++ either (drop l.v l.set) (drop l.v l.other) ≡ either l.set l.other
