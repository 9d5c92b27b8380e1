use Rattle.std.proofs.Common.{◌≡◌, drop}
use Rattle.model_types.specs.Placed as placed
use Rattle.model_types.proofs.carried.joined_one_by_one.Given as goal

abbrev pub invariant-loop-x : goal.invariant-loop-x
invariant-loop-x l = placed.joined l.place (drop l.x-index l.names) l.one l.two l.after
    ≡ placed.joined l.place l.names l.one l.two l.initial.after
