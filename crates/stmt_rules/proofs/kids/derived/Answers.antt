use Rattle.std.proofs.Common.{rules, sym, ap, ◌∙◌, ◌+◌, arith}
use Rattle.stmt_rules.proofs.Sizes.{expr_size_is}
use Rattle.stmt_rules.proofs.kids.derived.Goals as goal

pub expr_instance-requires : goal.expr_instance-requires
expr_instance-requires g c = rw (expr_size_is (g.B.Book.turn c.args.book.now) c.args.node.now) at c.requires

pub expr_size-requires : goal.expr_size-requires
expr_size-requires g c =
    let small = rw (expr_size_is (g.B.Book.turn c.args.book.now) c.args.node.now) at c.requires in
    omega (arith, small)

pub overflow_add-next : goal.overflow_add-next
overflow_add-next g c =
    let small = rw (expr_size_is (g.B.Book.turn c.args.book.now) c.args.node.now) at c.requires in
    let size = c.expr_size.ensures in
    search (rules, small, size)

pub returns-clause-counted : goal.returns-clause-counted
returns-clause-counted g c = ap (λ n. c.args.next.now + n)
    (c.expr_size.ensures ∙ sym (expr_size_is (g.B.Book.turn c.args.book.now) c.args.node.now))
