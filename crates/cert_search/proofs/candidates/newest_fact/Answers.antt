use Rattle.std.proofs.Common.{◌≡◌, ◌-◌, ◌<◌, Some, length, refl, sym, ◌∙◌, arith}
use Rattle.std.specs.Prelude.{slice_get}
use Rattle.std.proofs.lemmas.Option.{slice_get_read}
use Rattle.cert_search.proofs.Order.{fits, fits_not}
use Rattle.cert_search.proofs.candidates.newest_fact.Goals as goal

pub returns-in-Some : goal.returns-in-Some
returns-in-Some c =
    let facts = c.args.facts.now in
    let i = c.facts.older - 1 in
    let within = c.facts.invariant.within in
    let below : i < length facts = omega (arith, c.facts-test.true, within, c.requires.within) in
    let fact = c.index-facts-older in
    let at : slice_get facts i ≡ Some fact.result = slice_get_read facts (length facts) i _ refl below fact.is in
    let fit = fits facts c.args.term c.facts.older fact.result c.in-Some.mult (omega arith) at c.in-Some.ensures in
    (omega (arith, c.facts-test.true, within), sym c.facts.invariant.passed ∙ fit)

pub facts-preserved : goal.facts-preserved
facts-preserved c =
    let facts = c.args.facts.now in
    let i = c.facts.older - 1 in
    let within = c.facts.invariant.within in
    let below : i < length facts = omega (arith, c.facts-test.true, within, c.requires.within) in
    let fact = c.index-facts-older in
    let at : slice_get facts i ≡ Some fact.result = slice_get_read facts (length facts) i _ refl below fact.is in
    let fit = fits_not facts c.args.term c.facts.older fact.result (omega arith) at c.in_default.ensures in
    record {
      within = omega (arith, c.facts-test.true, within);
      passed = fit ∙ c.facts.invariant.passed;
    }
