use Rattle.std.proofs.Common.{◌≡◌, length}
use Rattle.image_layout.specs.Reading as spec
use Rattle.image_layout.proofs.reading.results.has_array.Given as goal

abbrev pub invariant-rets : goal.invariant-rets
invariant-rets l = spec.has_array l.p l.left ≡ spec.has_array l.p l.rets

abbrev pub decreases-rets : goal.decreases-rets
decreases-rets l = length l.left
