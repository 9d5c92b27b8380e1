use Rattle.std.proofs.Common.{◌∙◌, arith}
use Rattle.cert_search.specs.Search as spec
use Rattle.cert_search.proofs.Order.{first_gives, first_fails, none_tried, none_fits, by_candidates}
use Rattle.cert_search.proofs.search.+search.Goals as goal
use Rattle.cert_search.proofs.search.+search.Goals.{first_candidate-else-facts-test, first_candidate-then-facts-test+in-None}

pub entries-returns : goal.entries-returns
entries-returns t c =
    let x = c.args in
    rw (by_candidates x.facts.now x.tops.now x.levels x.goal.now c.term_at.result c.if-levels-eq0.false c.term_at.ensures)
    c.first_candidate.ensures

pub first_candidate-returns-in-Some-2 : goal.first_candidate-returns-in-Some-2
first_candidate-returns-in-Some-2 t c =
    let x = c.args in
    let facts = x.facts.now in
    let tops = x.tops.now in
    let attempt = spec.beginning (spec.entries facts tops x.levels) (spec.next_goal facts tops x.goal.now) in
    let fit = spec.fitting x.facts.now x.term c.facts.older in
    let older = spec.fitting x.facts.now x.term c.in-Some.entry.number in
    let more = spec.at_most_one (spec.symbol_entry x.tops.now x.term) in
    let tried = c.in_ok-entries-in-Some in
    first_gives attempt c.facts.tries fit older more c.in-Some.entry tried.field-0 c.in-Some-2.entries
    (omega arith) c.in-Some.ensures.1 tried.ensures c.in-Some-2.is
    ∙ c.facts.invariant.tried

pub first_candidate-facts-preserved : goal.first_candidate-facts-preserved
first_candidate-facts-preserved t c =
    let x = c.args in
    let facts = x.facts.now in
    let tops = x.tops.now in
    let attempt = spec.beginning (spec.entries facts tops x.levels) (spec.next_goal facts tops x.goal.now) in
    let fit = spec.fitting x.facts.now x.term c.facts.older in
    let older = spec.fitting x.facts.now x.term c.in-Some.entry.number in
    let more = spec.at_most_one (spec.symbol_entry x.tops.now x.term) in
    let tried = c.in_ok-entries-in-Some in
    record {
      within = omega (arith, c.in-Some.ensures.0, c.facts.invariant.within);
      tried =
          first_fails attempt c.facts.tries fit older more c.in-Some.entry tried.field-0
          (omega arith) c.in-Some.ensures.1 tried.ensures c.in_default.is
          ∙ c.facts.invariant.tried;
    }

pub first_candidate-returns-in-None-symbol_entry : goal.first_candidate-returns-in-None-symbol_entry
first_candidate-returns-in-None-symbol_entry t c =
    let x = c.args in
    let facts = x.facts.now in
    let tops = x.tops.now in
    let attempt = spec.beginning (spec.entries facts tops x.levels) (spec.next_goal facts tops x.goal.now) in
    let fit = spec.fitting x.facts.now x.term c.facts.older in
    let symbol = spec.symbol_entry x.tops.now x.term in
    let none = c.in-None-symbol_entry.ensures in
    elim c.facts-test.branch [
      | first_candidate-else-facts-test w ↦
          none_tried attempt c.facts.tries fit symbol (omega arith) none ∙ c.facts.invariant.tried
      | first_candidate-then-facts-test+in-None w ↦
          none_fits attempt c.facts.tries fit symbol w.in-None.ensures none ∙ c.facts.invariant.tried
    ]
