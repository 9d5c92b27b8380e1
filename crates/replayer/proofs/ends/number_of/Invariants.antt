use Rattle.std.proofs.Common.{◌≡◌, ◌+◌, drop}
use Rattle.replayer.specs.Ends as spec
use Rattle.replayer.proofs.ends.number_of.Given as goal

-- the name's number is among those left, behind those that were passed
abbrev pub invariant-loop-param : goal.invariant-loop-param
invariant-loop-param l =
    (l.number ≡ l.param-index) × (l.number + spec.number_of (drop l.param-index l.params) l.name ≡ spec.number_of l.params l.name)
