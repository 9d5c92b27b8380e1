use Rattle.cert_search.proofs.TakenOff.{next_less, rises_less}
use Rattle.cert_search.proofs.difference.DifferenceCombination.symbol_from.Goals as goal

pub returns-clause-next : goal.returns-clause-next
returns-clause-next c =
    let d = c.args.self.now in
    let next = next_less d.goal.now d.form.now d.mult c.args.least c.symbol_from.result c.symbol_from-2.result in
    rw c.lesser.ensures (next c.symbol_from.ensures.next c.symbol_from-2.ensures.next)

pub returns-clause-rising : goal.returns-clause-rising
returns-clause-rising c =
    let d = c.args.self.now in
    rises_less d.goal.now d.form.now d.mult c.symbol_from.ensures.rising c.symbol_from-2.ensures.rising
