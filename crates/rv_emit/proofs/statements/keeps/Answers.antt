use Rattle.std.proofs.Common.{length}
use Rattle.rv_emit.proofs.Emitting.{item_whole, item_room}
use Rattle.rv_emit.proofs.statements.keeps.Goals as goal

pub returns-clause-whole : goal.returns-clause-whole
returns-clause-whole c = item_whole (length c.args.plan.now.places) (length c.args.offsets.now) c.args.i c.args.cs.now
    c.args.c.now c.requires.whole c.requires.same c.requires.some c.requires.within

pub returns-clause-room : goal.returns-clause-room
returns-clause-room c = item_room (length c.args.code.now.items) c.args.start c.args.i c.args.cs.now c.args.c.now
    c.requires.counted c.requires.room c.requires.same c.requires.some c.requires.within
