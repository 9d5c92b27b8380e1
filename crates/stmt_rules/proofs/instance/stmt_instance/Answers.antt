use Rattle.stmt_rules.proofs.Sizes.{stmt_size_is}
use Rattle.stmt_rules.proofs.instance.stmt_instance.Goals as goal

pub noted-requires : goal.noted-requires
noted-requires g c = rw (stmt_size_is (g.B.Book.turn c.args.book.now) c.args.node.now) c.requires.small

pub judge-requires : goal.judge-requires
judge-requires g c = record {
  small = rw (stmt_size_is (g.B.Book.turn c.args.book.now) c.args.node.now) c.requires.small;
  narrow = c.requires.narrow;
}
