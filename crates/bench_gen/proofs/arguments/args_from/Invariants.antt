use Rattle.std.proofs.Common.{◌≡◌, map}
use Rattle.std.specs.List.{range_with_len}
use Rattle.bench_gen.specs.Generator.{byte}
use Rattle.bench_gen.proofs.arguments.args_from.Given as goal

abbrev pub invariant-loop-k : goal.invariant-loop-k
invariant-loop-k l = l.bytes ≡ map (byte l.fn.seed) (range_with_len 0 l.k)
