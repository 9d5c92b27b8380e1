use Rattle.std.proofs.Common.{◌≡◌, ◌++◌, length}
use Rattle.std.specs.List.{flat_map}
use Rattle.run_setup.specs.Digits as spec
use Rattle.run_setup.proofs.digits.put_bytes.Given as goal

abbrev pub invariant-bytes : goal.invariant-bytes
invariant-bytes l = l.out ++ flat_map spec.two_digits l.left ≡ l.fn.out ++ flat_map spec.two_digits l.bytes

abbrev pub decreases-bytes : goal.decreases-bytes
decreases-bytes l = length l.left
