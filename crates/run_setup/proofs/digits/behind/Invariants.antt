use Rattle.std.proofs.Common.{◌≡◌, drop}
use Rattle.run_setup.specs.Digits as spec
use Rattle.run_setup.proofs.digits.behind.Given as goal

abbrev pub invariant-loop-wanted : goal.invariant-loop-wanted
invariant-loop-wanted l = spec.behind (drop l.wanted-index l.prefix) l.left ≡ spec.behind l.prefix l.bytes
