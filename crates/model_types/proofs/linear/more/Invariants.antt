use Rattle.std.proofs.Common.{◌≡◌, ◌++◌, drop, Ok}
use Rattle.model_syntax.specs.Answer.{◌>>=◌}
use Rattle.model_syntax.specs.Linear as spec
use Rattle.model_types.proofs.linear.more.Given as goal

abbrev pub invariant-loop-i : goal.invariant-loop-i
invariant-loop-i l = (spec.more l.x l.k (drop l.i l.terms) >>= (λ rest. Ok (l.kept ++ rest))) ≡ spec.more l.x l.k l.terms
