use Rattle.std.proofs.Common.{◌≡◌, ◌++◌, drop, Ok}
use Rattle.model_syntax.specs.Answer.{◌>>=◌}
use Rattle.model_syntax.specs.Linear as spec
use Rattle.model_types.proofs.linear.scaled.Given as goal

abbrev pub invariant-loop-term : goal.invariant-loop-term
invariant-loop-term l = (spec.scaled l.k (drop l.term-index l.terms) >>= (λ rest. Ok (l.products ++ rest)))
    ≡ spec.scaled l.k l.terms
