use Rattle.std.proofs.Common.{◌≡◌, ◌++◌, length}
use Rattle.std.specs.List.{flat_map}
use Rattle.rup_base.specs.RefusalLine as spec
use Rattle.rup_base.proofs.line.put_numbers.Given as goal

abbrev pub invariant-numbers : goal.invariant-numbers
invariant-numbers l = l.line ++ flat_map spec.numbered l.left ≡ l.fn.line ++ flat_map spec.numbered l.numbers

abbrev pub decreases-numbers : goal.decreases-numbers
decreases-numbers l = length l.left
