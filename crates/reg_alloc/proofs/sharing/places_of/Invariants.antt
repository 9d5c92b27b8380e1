use Rattle.std.proofs.Common.{◌≡◌, ◌++◌, drop, map}
use Rattle.reg_alloc.specs.Registers.{place_in}
use Rattle.reg_alloc.proofs.sharing.places_of.Given as goal

abbrev pub invariant-loop-colour : goal.invariant-loop-colour
invariant-loop-colour l = l.places ++ map (place_in l.vars) (drop l.colour-index l.colours) ≡ map (place_in l.vars) l.colours
