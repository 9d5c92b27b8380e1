use Rattle.std.proofs.Common.{◌≡◌, ◌++◌, ◌≤◌, ◌-◌, length, drop}
use Rattle.derive_search.specs.Trips as spec
use Rattle.derive_search.proofs.trips.as_args.Given as goal

-- the terms that are left come behind the arguments
abbrev pub invariant-terms : goal.invariant-terms
invariant-terms l = record {
  inside : l.k ≤ length l.form.terms;
  rest : l.args ++ spec.terms_as_args (drop l.k l.form.terms) ≡ spec.as_args l.form;
}

abbrev pub decreases-terms : goal.decreases-terms
decreases-terms l = length l.form.terms - l.k
