use Rattle.std.proofs.Common.{arith}
use Rattle.rv_memory.specs.Contents.{parts}
use Rattle.rv_memory.proofs.Cut.{recut_bytes, recut_disjoint}
use Rattle.rv_memory.proofs.byte_map.Memory.new.Goals as goal

pub returns : goal.returns
returns c =
    recut_bytes c.args.regions (parts c.regions.pages.items) c.regions.left.now (omega (arith, c.in_default.len_below))
    c.regions.invariant.1

pub invariant_of-result : goal.invariant_of-result
invariant_of-result c =
    recut_disjoint c.args.regions (parts c.regions.pages.items) c.regions.left.now (omega (arith, c.in_default.len_below))
    c.requires.disjoint c.regions.invariant.1
