use Rattle.std.proofs.Common.{◌≡◌, length}
use Rattle.deriv_file.specs.Forest as spec
use Rattle.deriv_file.proofs.forest.grown.Given as goal

abbrev pub invariant-nodes : goal.invariant-nodes
invariant-nodes l = spec.grown l.left.items (spec.trees_of l.forest) ≡ spec.grown l.fn.listed.items spec.no_trees

abbrev pub decreases-nodes : goal.decreases-nodes
decreases-nodes l = length l.left.items
