use Rattle.std.proofs.Common.{◌≡◌, ◌≤◌, ◌+◌, ◌++◌, filter, length}
use Rattle.rv_emit.specs.Whole as whole
use Rattle.rv_emit.proofs.frame.saved_in.Given as goal

-- what is left completes the registers
abbrev pub invariant-registers : goal.invariant-registers
invariant-registers l =
    record {
      saved : l.saved ++ filter (whole.uses l.places) l.left ≡ whole.saved_in l.places;
      few : length l.saved + length l.left ≤ 12;
    }

abbrev pub decreases-registers : goal.decreases-registers
decreases-registers l = length l.left
