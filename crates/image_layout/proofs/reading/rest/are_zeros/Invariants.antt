use Rattle.std.proofs.Common.{◌≡◌, length}
use Rattle.image_layout.specs.Reading as spec
use Rattle.image_layout.proofs.reading.rest.are_zeros.Given as goal

abbrev pub invariant-bytes : goal.invariant-bytes
invariant-bytes l = spec.all_zeros l.left ≡ spec.all_zeros l.bytes

abbrev pub decreases-bytes : goal.decreases-bytes
decreases-bytes l = length l.left
