use Rattle.std.proofs.Common.{◌≡◌, ◌≤◌, ◌-◌, length, drop}
use Rattle.std.specs.List.{list_all}
use Rattle.stmt_rules.specs.Loops as spec
use Rattle.stmt_rules.proofs.loops.are_entry_terms.Given as goal

-- what is left tells of all terms
abbrev pub invariant-terms : goal.invariant-terms
invariant-terms l = record {
  inside : l.k ≤ length l.form.terms;
  rest : list_all (spec.is_entry_term l.entries) (drop l.k l.form.terms) ≡ list_all (spec.is_entry_term l.entries) l.form.terms;
}

abbrev pub decreases-terms : goal.decreases-terms
decreases-terms l = length l.form.terms - l.k
