use Rattle.std.proofs.Common.{◌≡◌, ◌++◌, map, drop}
use Rattle.model_syntax.specs.Value as spec
use Rattle.model_value.proofs.model_value.results.Given as goal

abbrev pub invariant-loop-ret : goal.invariant-loop-ret
invariant-loop-ret l = l.all ++ map (spec.result_of l.end) (drop l.ret-index l.rets) ≡ map (spec.result_of l.end) l.rets
