use Rattle.std.proofs.Common.{◌≡◌, [], take, drop}
use Rattle.model_syntax.specs.Types as spec
use Rattle.model_types.proofs.ret_type.check_results.Given as goal

abbrev pub invariant-loop-i : goal.invariant-loop-i
invariant-loop-i l = spec.results l.start l.scope l.k (take l.i l.rets) (drop l.i l.rets)
    ≡ spec.results l.start l.scope 0 [] l.rets
