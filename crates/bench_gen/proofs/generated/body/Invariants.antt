use Rattle.std.proofs.Common.{◌≡◌, map}
use Rattle.std.specs.List.{range_with_len}
use Rattle.bench_gen.specs.Generator.{first}
use Rattle.bench_gen.proofs.generated.body.Given as goal

abbrev pub invariant-loop-k : goal.invariant-loop-k
invariant-loop-k l = l.body ≡ map first (range_with_len 0 l.k)
