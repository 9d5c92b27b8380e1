use Rattle.std.proofs.Common.{◌≡◌, ◌+◌, ◌≤◌, length}
use Rattle.image_layout.specs.Reading as spec
use Rattle.image_layout.proofs.reading.results.scalars.Given as goal

abbrev pub invariant-rets : goal.invariant-rets
invariant-rets l = record {
  so_far : l.count + spec.scalars l.left ≡ spec.scalars l.rets;
  most : l.count + length l.left ≤ length l.rets;
}

abbrev pub decreases-rets : goal.decreases-rets
decreases-rets l = length l.left
