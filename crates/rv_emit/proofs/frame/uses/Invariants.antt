use Rattle.std.proofs.Common.{◌≡◌, length}
use Rattle.rv_emit.specs.Whole as whole
use Rattle.rv_emit.proofs.frame.uses.Given as goal

abbrev pub invariant-places : goal.invariant-places
invariant-places l = whole.uses l.left l.r ≡ whole.uses l.places l.r

abbrev pub decreases-places : goal.decreases-places
decreases-places l = length l.left
