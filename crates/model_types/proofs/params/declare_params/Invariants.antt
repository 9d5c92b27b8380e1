use Rattle.std.proofs.Common.{◌≡◌, [], drop}
use Rattle.rup_base.specs.declared.refusal.TypePlace.TheVariants.{Params}
use Rattle.model_syntax.specs.Types as spec
use Rattle.model_types.proofs.params.declare_params.Given as goal

abbrev pub invariant-loop-param : goal.invariant-loop-param
invariant-loop-param l = spec.at Params (spec.declare_params (drop l.param-index l.params) l.scope)
    ≡ spec.at Params (spec.declare_params l.params [])
