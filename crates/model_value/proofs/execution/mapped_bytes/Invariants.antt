use Rattle.std.proofs.Common.{◌≡◌, ◌++◌, ◌%◌, map, drop}
use Rattle.model_syntax.specs.Value as spec
use Rattle.model_value.proofs.execution.mapped_bytes.Given as goal

abbrev pub invariant-loop-byte : goal.invariant-loop-byte
invariant-loop-byte l =
    l.mapped ++ map (λ n. n % 256) (map (spec.element_of l.x l.e l.env) (drop l.byte-index l.bytes))
    ≡ map (λ n. n % 256) (map (spec.element_of l.x l.e l.env) l.bytes)
