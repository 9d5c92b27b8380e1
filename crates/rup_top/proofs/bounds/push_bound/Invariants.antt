use Rattle.std.proofs.Common.{◌≡◌, ◌++◌, length}
use Rattle.std.specs.List.{flat_map}
use Rattle.rup_top.specs.Bounds as spec
use Rattle.rup_top.proofs.bounds.push_bound.Given as goal

abbrev pub invariant-terms : goal.invariant-terms
invariant-terms l = l.out ++ flat_map (spec.term_text l.names) l.left ≡ l.fn.out ++ spec.bound_text l.names l.bound

abbrev pub decreases-terms : goal.decreases-terms
decreases-terms l = length l.left
