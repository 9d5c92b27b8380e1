use Rattle.std.proofs.Common.{◌≡◌, ◌++◌, map, length}
use Rattle.model_syntax.specs.Entries.{result_place}
use Rattle.pipeline.proofs.around.places_of.Given as goal

-- what is left completes the places
abbrev pub invariant-rets : goal.invariant-rets
invariant-rets l = l.places ++ map (result_place l.params) l.left ≡ map (result_place l.params) l.rets

abbrev pub decreases-rets : goal.decreases-rets
decreases-rets l = length l.left
