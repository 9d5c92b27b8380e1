use Rattle.std.proofs.Common.{◌≡◌, ◌-◌, ◌++◌}
use Rattle.bench_gen.specs.Generator.{statements}
use Rattle.bench_gen.proofs.generated.push_drawn.Given as goal

abbrev pub invariant-loop : goal.invariant-loop
invariant-loop l = l.body ++ statements (l.count - l.counter) l.draws.state ≡ l.fn.body ++ statements l.fn.count l.fn.seed
