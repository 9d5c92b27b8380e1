use Rattle.deriv_file.proofs.Pushed.{stmt_pushed}
use Rattle.deriv_file.proofs.printer.+push.Goals as goal

pub push_stmt-loop-block-init : goal.push_stmt-loop-block-init
push_stmt-loop-block-init t c =
    stmt_pushed c.args.node.now c.args.out.now.items c.push.new.self.items c.push_exprs.new.out.items c.in_ok-stmt_value.field-0
    c.as_slice.result.now c.as_slice-block-items.result.now c.as_slice-2.result.now c.as_slice.ensures
    c.as_slice-block-items.ensures c.as_slice-2.ensures
    c.in_ok-stmt_value.ensures c.in_ok-push.ensures.items c.in_ok-push_exprs.ensures
