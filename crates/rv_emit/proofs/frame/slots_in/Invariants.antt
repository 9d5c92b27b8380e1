use Rattle.std.proofs.Common.{◌≡◌, ◌≤◌, drop, length}
use Rattle.rv_emit.specs.Whole as whole
use Rattle.rv_emit.proofs.frame.slots_in.Given as goal

abbrev pub invariant-loop-x : goal.invariant-loop-x
invariant-loop-x l =
    record {
      slots : l.slots ≡ whole.slots_in (drop l.x l.plan.places);
      few : l.slots ≤ 512;
      within : l.x ≤ length l.plan.places;
    }

abbrev pub decreases-loop-x : goal.decreases-loop-x
decreases-loop-x l = l.x
