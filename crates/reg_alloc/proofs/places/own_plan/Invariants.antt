use Rattle.std.proofs.Common.{◌≡◌}
use Rattle.reg_alloc.specs.Registers.{own_places}
use Rattle.reg_alloc.proofs.places.own_plan.Given as goal

abbrev pub invariant-loop-x : goal.invariant-loop-x
invariant-loop-x l = l.places ≡ own_places l.x
