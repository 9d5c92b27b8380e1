use Rattle.stmt_rules.proofs.Sizes.{block_size_is}
use Rattle.stmt_rules.proofs.instance.block_instance.Goals as goal

pub walk-requires : goal.walk-requires
walk-requires g c = record {
  small = rw (block_size_is (g.B.Book.turn c.args.book.now) c.args.block.now) c.requires.small;
  narrow = c.requires.narrow;
}
