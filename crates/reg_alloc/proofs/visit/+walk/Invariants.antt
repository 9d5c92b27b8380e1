use Rattle.std.proofs.Common.{◌≡◌, ◌≤◌, drop, length}
use Rattle.reg_alloc.specs.Visit.{code_visit}
use Rattle.reg_alloc.proofs.visit.+walk.Given as goal

abbrev pub invariant-walk_all-loop-i : goal.invariant-walk_all-loop-i
invariant-walk_all-loop-i l =
    (l.set.items ≡ (code_visit (drop l.i l.body)).back l.fn.set.items)
    × ((l.watch ≡ (code_visit (drop l.i l.body)).note l.fn.set.items l.fn.watch) × (l.i ≤ length l.body))

abbrev pub decreases-walk_all-loop-i : goal.decreases-walk_all-loop-i
decreases-walk_all-loop-i l = l.i
