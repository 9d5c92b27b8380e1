use Rattle.std.proofs.Common.{◌≡◌, ◌++◌, length}
use Rattle.std.specs.List.{AllByRecursion}
use Rattle.pipeline.specs.Around.{IsLimited}
use Rattle.pipeline.proofs.around.copies_of.Given as goal

-- what is left completes the copies
abbrev pub invariant-forms : goal.invariant-forms
invariant-forms l = (l.copies ++ l.left ≡ l.forms) × AllByRecursion IsLimited l.copies

abbrev pub decreases-forms : goal.decreases-forms
decreases-forms l = length l.left
