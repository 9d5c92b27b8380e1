use Rattle.std.proofs.Common.{◌≡◌, ◌≤◌, ◌+◌, drop, length}
use Rattle.rv_emit.specs.Emission.{Puts}
use Rattle.rv_emit.specs.Whole as whole
use Rattle.rv_emit.proofs.frame.bring_back.Given as goal

abbrev pub invariant-loop-i : goal.invariant-loop-i
invariant-loop-i l =
    record {
      words : Puts l.fn.code.items l.code.items (whole.restores (l.first + l.i) (drop l.i l.saved));
      counted : length l.code.items + l.i ≡ length l.fn.code.items + length l.saved;
      within : l.i ≤ length l.saved;
    }

abbrev pub decreases-loop-i : goal.decreases-loop-i
decreases-loop-i l = l.i
