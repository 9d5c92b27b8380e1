use Rattle.std.proofs.Common.{◌≡◌, ◌++◌, length, option_map}
use Rattle.run_setup.specs.Digits as spec
use Rattle.run_setup.proofs.digits.hex_bytes.Given as goal

-- the digits that are left complete the bytes
abbrev pub invariant-pairs : goal.invariant-pairs
invariant-pairs l = option_map (λ rest. l.bytes ++ rest) (spec.hex_bytes l.left) ≡ spec.hex_bytes l.digits

abbrev pub decreases-pairs : goal.decreases-pairs
decreases-pairs l = length l.left
