use Rattle.std.proofs.Common.{rules, subst}
use Rattle.rup_base.specs.Answers.{Answers}
use Rattle.model_types.proofs.Parts.{branches, loop, if_whole, for_whole}
use Rattle.model_types.proofs.stmt_type.+stmt.Goals as goal

pub check_stmt-returns-in_err-enter_if-in-If : goal.check_stmt-returns-in_err-enter_if-in-If
unfolding branches
check_stmt-returns-in_err-enter_if-in-If t c =
    subst (Answers c.from_residual.result)
    (if_whole c.args.stmt.now c.args.state c.in-If.test c.in-If.names c.in-If.keep c.in-If.first c.in-If.second c.in-If.is)
    (search rules)

pub check_stmt-returns-in_err-one-in-If : goal.check_stmt-returns-in_err-one-in-If
unfolding branches
check_stmt-returns-in_err-one-in-If t c =
    subst (Answers c.from_residual-in_err-one-in-If.result)
    (if_whole c.args.stmt.now c.args.state c.in-If.test c.in-If.names c.in-If.keep c.in-If.first c.in-If.second c.in-If.is)
    (search rules)

pub check_stmt-returns-in_err-two-in-If : goal.check_stmt-returns-in_err-two-in-If
unfolding branches
check_stmt-returns-in_err-two-in-If t c =
    subst (Answers c.from_residual-in_err-two-in-If.result)
    (if_whole c.args.stmt.now c.args.state c.in-If.test c.in-If.names c.in-If.keep c.in-If.first c.in-If.second c.in-If.is)
    (search rules)

pub check_stmt-returns-in_ok-two-in-If : goal.check_stmt-returns-in_ok-two-in-If
unfolding branches
check_stmt-returns-in_ok-two-in-If t c =
    subst (Answers c.leave_if.result)
    (if_whole c.args.stmt.now c.args.state c.in-If.test c.in-If.names c.in-If.keep c.in-If.first c.in-If.second c.in-If.is)
    (search rules)

pub check_stmt-returns-in_err-inner-in-For : goal.check_stmt-returns-in_err-inner-in-For
unfolding loop
check_stmt-returns-in_err-inner-in-For t c =
    subst (Answers c.from_residual-in_err-inner-in-For.result)
    (for_whole c.args.stmt.now c.args.state c.in-For.x c.in-For.low c.in-For.high c.in-For.names c.in-For.keep c.in-For.body
    c.in-For.is) (search rules)

pub check_stmt-returns-in_err-end-in-For : goal.check_stmt-returns-in_err-end-in-For
unfolding loop
check_stmt-returns-in_err-end-in-For t c =
    subst (Answers c.from_residual-in_err-end-in-For.result)
    (for_whole c.args.stmt.now c.args.state c.in-For.x c.in-For.low c.in-For.high c.in-For.names c.in-For.keep c.in-For.body
    c.in-For.is) (search rules)

pub check_stmt-returns-in_ok-end-in-For : goal.check_stmt-returns-in_ok-end-in-For
unfolding loop
check_stmt-returns-in_ok-end-in-For t c =
    subst (Answers c.leave_for.result)
    (for_whole c.args.stmt.now c.args.state c.in-For.x c.in-For.low c.in-For.high c.in-For.names c.in-For.keep c.in-For.body
    c.in-For.is) (search rules)
