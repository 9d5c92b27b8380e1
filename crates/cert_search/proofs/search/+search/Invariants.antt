use Rattle.std.proofs.Common.{◌≡◌, ◌≤◌, ◌+◌, ◌*◌, ◌++◌, take, length}
use Rattle.cert_search.specs.Search as spec
use Rattle.cert_search.proofs.search.+search.Given as goal

abbrev pub decreases-entries : goal.decreases-entries
decreases-entries l = 3 * l.levels

abbrev pub decreases-first_candidate : goal.decreases-first_candidate
decreases-first_candidate l = 3 * l.levels + 2

abbrev pub decreases-beginning : goal.decreases-beginning
decreases-beginning l = 3 * l.levels + 1

-- none of the candidates that were tried gives anything
abbrev pub invariant-first_candidate-facts : goal.invariant-first_candidate-facts
invariant-first_candidate-facts l = record {
  within : l.older ≤ length l.facts;
  tried :
      let attempt = spec.beginning (spec.entries l.facts l.tops l.levels) (spec.next_goal l.facts l.tops l.goal) in
      let symbol = spec.at_most_one (spec.symbol_entry l.tops l.term) in
      spec.first_of attempt (take l.tries (spec.fitting l.facts l.term l.older) ++ symbol)
      ≡ spec.first_of attempt (spec.candidates l.facts l.tops l.term);
}

abbrev pub decreases-first_candidate-facts : goal.decreases-first_candidate-facts
decreases-first_candidate-facts l = l.tries
