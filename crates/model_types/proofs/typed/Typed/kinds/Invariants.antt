use Rattle.std.proofs.Common.{◌≡◌, ◌++◌, map, drop}
use Rattle.model_syntax.specs.Types.{kind_of}
use Rattle.model_types.proofs.typed.Typed.kinds.Given as goal

abbrev pub invariant-loop-param : goal.invariant-loop-param
invariant-loop-param l = l.kinds ++ map kind_of (drop l.param-index l.param-items) ≡ map kind_of l.self.inner.params
