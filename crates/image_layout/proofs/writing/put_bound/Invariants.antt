use Rattle.std.proofs.Common.{◌≡◌, ◌++◌, length}
use Rattle.std.specs.List.{flat_map}
use Rattle.image_layout.specs.Spelling as spec
use Rattle.image_layout.proofs.writing.put_bound.Given as goal

-- what is left completes the bytes
abbrev pub invariant-terms : goal.invariant-terms
invariant-terms l = l.out ++ flat_map spec.bound_term l.left ≡ l.fn.out ++ flat_map spec.bound_term l.terms

abbrev pub decreases-terms : goal.decreases-terms
decreases-terms l = length l.left
