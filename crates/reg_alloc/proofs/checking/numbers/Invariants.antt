use Rattle.std.proofs.Common.{◌≡◌, ◌++◌, drop, map}
use Rattle.reg_alloc.specs.Kept.{number}
use Rattle.reg_alloc.proofs.checking.numbers.Given as goal

abbrev pub invariant-loop-at : goal.invariant-loop-at
invariant-loop-at l = l.numbers ++ map number (drop l.at-index l.places) ≡ map number l.places
