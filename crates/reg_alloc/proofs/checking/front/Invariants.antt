use Rattle.std.proofs.Common.{◌≡◌, ◌++◌, drop}
use Rattle.reg_alloc.specs.Check.{front_from}
use Rattle.reg_alloc.proofs.checking.front.Given as goal

abbrev pub invariant-loop-live : goal.invariant-loop-live
invariant-loop-live l = (l.front.items ++ front_from l.args l.v (drop l.live-index l.set) ≡ front_from l.args 0 l.set)
    × (l.v ≡ l.live-index)
