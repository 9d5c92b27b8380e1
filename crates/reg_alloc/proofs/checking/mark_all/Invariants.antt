use Rattle.std.proofs.Common.{◌≡◌, ◌≤◌, drop, length}
use Rattle.reg_alloc.specs.Check.{marked}
use Rattle.reg_alloc.proofs.checking.mark_all.Given as goal

abbrev pub invariant-loop-i : goal.invariant-loop-i
invariant-loop-i l = (l.set.items ≡ marked (drop l.i l.rets) l.fn.set.items) × (l.i ≤ length l.rets)

abbrev pub decreases-loop-i : goal.decreases-loop-i
decreases-loop-i l = l.i
