use Rattle.std.proofs.Common.{◌≡◌, ◌++◌, length}
use Rattle.std.specs.List.{flat_map}
use Rattle.image_layout.specs.Spelling as spec
use Rattle.image_layout.proofs.writing.put_numbers.Given as goal

-- what is left completes the bytes
abbrev pub invariant-numbers : goal.invariant-numbers
invariant-numbers l = l.out ++ flat_map spec.number l.left ≡ l.fn.out ++ flat_map spec.number l.numbers

abbrev pub decreases-numbers : goal.decreases-numbers
decreases-numbers l = length l.left
