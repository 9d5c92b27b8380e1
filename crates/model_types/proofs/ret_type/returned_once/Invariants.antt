use Rattle.std.proofs.Common.{◌≡◌, drop}
use Rattle.model_syntax.specs.Types as spec
use Rattle.model_types.proofs.ret_type.returned_once.Given as goal

abbrev pub invariant-loop-ret : goal.invariant-loop-ret
invariant-loop-ret l = spec.once (spec.returned (drop l.ret-index l.before)) l.p ≡ spec.once (spec.returned l.before) l.p
