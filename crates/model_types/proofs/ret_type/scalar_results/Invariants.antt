use Rattle.std.proofs.Common.{◌≡◌, ◌+◌, ◌≤◌, drop}
use Rattle.model_syntax.specs.Types as spec
use Rattle.model_types.proofs.ret_type.scalar_results.Given as goal

abbrev pub invariant-loop-ret : goal.invariant-loop-ret
invariant-loop-ret l = record {
  few : l.count ≤ l.ret-index;
  total : l.count + spec.scalar_results (drop l.ret-index l.rets) ≡ spec.scalar_results l.rets;
}
