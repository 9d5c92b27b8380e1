use Rattle.std.proofs.Common.{◌≡◌, ◌++◌, drop, map}
use Rattle.flatten.specs.Code.{place}
use Rattle.flatten.proofs.flattening.places.Given as goal

abbrev pub invariant-loop-x : goal.invariant-loop-x
invariant-loop-x l = l.places ++ map (place l.names) (drop l.x-index l.xs) ≡ map (place l.names) l.xs
