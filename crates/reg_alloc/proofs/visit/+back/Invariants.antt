use Rattle.std.proofs.Common.{◌≡◌, ◌≤◌, drop, length}
use Rattle.reg_alloc.specs.Visit.{code_visit}
use Rattle.reg_alloc.proofs.visit.+back.Given as goal

abbrev pub invariant-back_all-loop-i : goal.invariant-back_all-loop-i
invariant-back_all-loop-i l = (l.set.items ≡ (code_visit (drop l.i l.body)).back l.fn.set.items) × (l.i ≤ length l.body)

abbrev pub decreases-back_all-loop-i : goal.decreases-back_all-loop-i
decreases-back_all-loop-i l = l.i
