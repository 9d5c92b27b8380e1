use Rattle.expr_rules.proofs.Sizes.{size_is}
use Rattle.expr_rules.proofs.instance.expr_instance.Goals as goal

pub judge-requires : goal.judge-requires
judge-requires g c = rw (size_is (g.B.Book.turn c.args.book.now) c.args.node.now) c.requires
