use Rattle.std.proofs.Common.{◌≡◌, ◌+◌, map, length}
use Rattle.model_syntax.specs.Entries.{number_among, param_name}
use Rattle.pipeline.proofs.around.number_of.Given as goal

-- the name's number is among those left, behind those that were passed
abbrev pub invariant-params : goal.invariant-params
invariant-params l =
    (l.number + length l.left ≡ length l.params)
    × (l.number + number_among l.name (map param_name l.left) ≡ number_among l.name (map param_name l.params))

abbrev pub decreases-params : goal.decreases-params
decreases-params l = length l.left
