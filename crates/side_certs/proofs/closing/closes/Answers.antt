use Rattle.side_certs.proofs.Cancelling.{means}
use Rattle.side_certs.proofs.closing.closes.Goals as goal

pub returns-clause-closes : goal.returns-clause-closes
returns-clause-closes c = rw c.passes.ensures (means c.args.facts.now c.args.tops.now c.args.goal.now c.args.cert.now)
