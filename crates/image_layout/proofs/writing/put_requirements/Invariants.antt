use Rattle.std.proofs.Common.{◌≡◌, ◌++◌, length}
use Rattle.std.specs.List.{flat_map}
use Rattle.image_layout.specs.Spelling as spec
use Rattle.image_layout.proofs.writing.put_requirements.Given as goal

-- what is left completes the bytes
abbrev pub invariant-forms : goal.invariant-forms
invariant-forms l = l.out ++ flat_map spec.requirement l.left ≡ l.fn.out ++ flat_map spec.requirement l.requires_

abbrev pub decreases-forms : goal.decreases-forms
decreases-forms l = length l.left
