use Rattle.std.proofs.Common.{rules, sym, ◌∙◌, ◌≡◌, None, Some, true}
use Rattle.derive_search.specs.Rows.{has_few_facts}
use Rattle.derive_search.proofs.Steps.{certificate_is}
use Rattle.derive_search.proofs.certificate.certificate.Goals as goal

pub returns-in-None-clause-found : goal.returns-in-None-clause-found
returns-in-None-clause-found c =
    let few : has_few_facts c.args.ctx.now ≡ true = search rules in
    certificate_is c.args.ctx.now c.args.goal.now None c.facts.result.now c.tops.result.now few c.facts.ensures c.tops.ensures
    (sym c.in-None.is ∙ c.in_ok-find.ensures.found)

pub returns-in-Some-clause-found : goal.returns-in-Some-clause-found
returns-in-Some-clause-found c =
    let few : has_few_facts c.args.ctx.now ≡ true = search rules in
    certificate_is c.args.ctx.now c.args.goal.now (Some c.in-Some.cert) c.facts.result.now c.tops.result.now few c.facts.ensures
    c.tops.ensures
    (sym c.in-Some.is ∙ c.in_ok-find.ensures.found)
