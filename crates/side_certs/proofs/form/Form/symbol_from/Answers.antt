use Rattle.side_certs.proofs.laws.Combinations.{next_first}
use Rattle.side_certs.proofs.form.Form.symbol_from.Goals as goal

pub returns-then-least-from-clause-next : goal.returns-then-least-from-clause-next
returns-then-least-from-clause-next c =
    next_first c.args.self.now c.terms.left.now c.args.least c.in-len1-up.len_at_least c.terms.invariant.rising
    c.terms.invariant.found (rw (← c.from.ensures) c.if-least-from.true)
