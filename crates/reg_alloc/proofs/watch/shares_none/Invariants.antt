use Rattle.std.proofs.Common.{◌≡◌, drop}
use Rattle.reg_alloc.specs.Marks.{alone_from}
use Rattle.reg_alloc.proofs.watch.shares_none.Given as goal

abbrev pub invariant-loop-v : goal.invariant-loop-v
invariant-loop-v l = alone_from l.place l.x l.v (drop l.v l.places) (drop l.v l.set) ≡ alone_from l.place l.x 0 l.places l.set
