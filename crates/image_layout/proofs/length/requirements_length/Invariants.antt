use Rattle.std.proofs.Common.{◌≡◌, ◌+◌, length}
use Rattle.std.specs.List.{flat_map}
use Rattle.image_layout.specs.Spelling as spec
use Rattle.image_layout.proofs.length.requirements_length.Given as goal

abbrev pub invariant-forms : goal.invariant-forms
invariant-forms l = l.length + length (flat_map spec.requirement l.left) ≡ length (flat_map spec.requirement l.requires_)

abbrev pub decreases-forms : goal.decreases-forms
decreases-forms l = length l.left
