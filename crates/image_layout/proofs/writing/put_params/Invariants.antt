use Rattle.std.proofs.Common.{◌≡◌, ◌++◌, length}
use Rattle.std.specs.List.{flat_map}
use Rattle.image_layout.specs.Spelling as spec
use Rattle.image_layout.proofs.writing.put_params.Given as goal

-- what is left completes the bytes
abbrev pub invariant-params : goal.invariant-params
invariant-params l = l.out ++ flat_map spec.parameter l.left ≡ l.fn.out ++ flat_map spec.parameter l.params

abbrev pub decreases-params : goal.decreases-params
decreases-params l = length l.left
