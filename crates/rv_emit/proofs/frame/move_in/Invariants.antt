use Rattle.std.proofs.Common.{◌≡◌, ◌≤◌, ◌+◌, drop, length}
use Rattle.rv_emit.specs.Emission.{Puts}
use Rattle.rv_emit.specs.Whole as whole
use Rattle.rv_emit.proofs.frame.move_in.Given as goal

abbrev pub invariant-loop-i : goal.invariant-loop-i
invariant-loop-i l =
    record {
      words : Puts l.fn.code.items l.code.items (whole.moves_in (whole.place l.plan) (drop l.i l.live));
      counted : length l.code.items + l.i ≡ length l.fn.code.items + length l.live;
      within : l.i ≤ length l.live;
    }

abbrev pub decreases-loop-i : goal.decreases-loop-i
decreases-loop-i l = l.i
