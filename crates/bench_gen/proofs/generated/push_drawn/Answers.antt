use Rattle.bench_gen.proofs.Counting.{turn}
use Rattle.bench_gen.proofs.generated.push_drawn.Goals as goal

pub loop-preserved : goal.loop-preserved
loop-preserved c =
    turn c.args.count c.loop.counter c.loop.draws.state _ c.loop.body _ _ _ c.loop-test.true c.loop.invariant
    c.in_ok-push.ensures.appended c.in_ok-statement.ensures.statement c.in_ok-statement.ensures.state
