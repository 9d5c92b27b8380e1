use Rattle.std.proofs.Common.{sym, ◌∙◌}
use Rattle.cert_search.proofs.laws.Found.{found_closes}
use Rattle.cert_search.proofs.search.find.Goals as goal

pub returns-in-Some-clause-closes : goal.returns-in-Some-clause-closes
returns-in-Some-clause-closes c =
    let x = c.args in
    let is = sym c.in_ok-entries.ensures ∙ c.in-Some.is in
    λ certificate same. (found_closes x.facts.now x.tops.now x.goal.now certificate (rw is same)).0

pub returns-in-Some-clause-limits : goal.returns-in-Some-clause-limits
returns-in-Some-clause-limits c =
    let x = c.args in
    let is = sym c.in_ok-entries.ensures ∙ c.in-Some.is in
    λ certificate same. (found_closes x.facts.now x.tops.now x.goal.now certificate (rw is same)).1
