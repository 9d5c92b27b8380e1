use Rattle.std.proofs.Common.{◌≡◌, ◌++◌, length}
use Rattle.std.specs.List.{flat_map}
use Rattle.image_layout.specs.Spelling as spec
use Rattle.image_layout.proofs.writing.put_results.Given as goal

-- what is left completes the bytes
abbrev pub invariant-rets : goal.invariant-rets
invariant-rets l = l.out ++ flat_map spec.symbol l.left ≡ l.fn.out ++ flat_map spec.symbol l.rets

abbrev pub decreases-rets : goal.decreases-rets
decreases-rets l = length l.left
