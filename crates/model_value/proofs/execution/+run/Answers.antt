use Rattle.std.proofs.Common.{rules, arith, refl}
use Rattle.model_value.proofs.Runs.{on_ok, one_run, block_back, turn_back, one_turn, last_turn}
use Rattle.model_value.proofs.execution.+run.Goals as goal

pub run_block-loop-stmt-preserved : goal.run_block-loop-stmt-preserved
run_block-loop-stmt-preserved t c =
    one_run c.args.stmts.now c.loop-stmt.stmt-index c.stmt-item.result c.loop-stmt.env c.run_stmt.new.env _ c.loop-stmt-test.true
    c.stmt-item.is c.in_ok-run_stmt.ensures c.loop-stmt.invariant

pub run_inside-returns : goal.run_inside-returns
run_inside-returns t c =
    on_ok c.restore.result (block_back c.args.names.now c.args.block.now c.as_slice.result.now c.as_slice-2.result.now
    c.in_ok-kept.kept c.args.env.now c.run_block.new.env c.restore.new.env
    (search rules) (search rules) c.in_ok-kept.ensures c.in_ok-run_block.ensures) c.restore.ensures

pub run_loop-loop-i-init : goal.run_loop-loop-i-init
run_loop-loop-i-init t c = record {
  state = c.args.env.now;
  alike = λ y out. refl;
  outside = λ y at. refl;
  leads = λ y. refl;
}

pub run_loop-loop-i-preserved : goal.run_loop-loop-i-preserved
run_loop-loop-i-preserved t c =
    one_turn c.args.x.now c.args.names.now c.args.body.now c.args.high c.args.env.now _ c.loop-i.i c.as_slice-in-loop-i.result.now
    c.loop-i.env c.run_turn.new.env c.loop-i-test.true (search rules)
    c.in_ok-run_turn.ensures c.loop-i.invariant

pub run_loop-returns : goal.run_loop-returns
run_loop-returns t c =
    on_ok c.restore.result (last_turn c.args.x.now c.args.names.now c.args.body.now c.args.high c.args.env.now _ c.loop-i.i
    c.as_slice.result.now c.as_slice-2.result.now c.in_ok-kept.kept
    c.loop-i.env c.restore.new.env (search (rules, arith)) (search rules) (search rules) c.in_ok-kept.ensures c.loop-i.invariant)
    c.restore.ensures

pub run_turn-returns : goal.run_turn-returns
run_turn-returns t c =
    on_ok c.restore.result (turn_back c.args.x.now c.args.i c.args.body.now c.args.back.now c.in_ok-kept.kept c.args.env.now
    c.put.new.self c.run_block.new.env c.restore.new.env
    c.in_ok-kept.ensures c.in_ok-put.ensures c.in_ok-run_block.ensures) c.restore.ensures
