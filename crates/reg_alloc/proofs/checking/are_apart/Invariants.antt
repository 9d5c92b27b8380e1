use Rattle.std.proofs.Common.{◌≡◌}
use Rattle.reg_alloc.specs.Check.{arguments_fit}
use Rattle.reg_alloc.proofs.checking.are_apart.Given as goal

abbrev pub invariant-loop-u : goal.invariant-loop-u
invariant-loop-u l = l.apart ≡ arguments_fit l.u l.places l.set
