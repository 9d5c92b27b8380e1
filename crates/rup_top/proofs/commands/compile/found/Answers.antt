use Rattle.rup_top.proofs.shown.Compile.{found_whole}
use Rattle.rup_top.proofs.commands.compile.found.Goals as goal

pub returns-clause-whole : goal.returns-clause-whole
returns-clause-whole c = found_whole c.args.lemmas.now c.args.typed.now.inner c.derive.result c.derive.ensures.found
