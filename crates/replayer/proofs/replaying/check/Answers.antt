use Rattle.replayer.proofs.Fulfilled.{few_commands}
use Rattle.replayer.proofs.replaying.check.Goals as goal

pub limited-requires-clause-small : goal.limited-requires-clause-small
limited-requires-clause-small g c =
    few_commands c.commands_are_small.ensures (g.B.Book.turn c.args.book.now) (g.met.B.Book.laws c.args.book.now) c.args.m.now
    c.requires.spellable c.args.d.now c.requires.whole
    c.in_ok-ctx.ctx c.in_ok-ctx.ensures c.in_ok-out.out _ c.in_ok-out.ensures
