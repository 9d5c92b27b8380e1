use Rattle.std.proofs.Common.{◌≡◌, drop}
use Rattle.derive_search.specs.Trips as spec
use Rattle.derive_search.proofs.trips.first_trip.Given as goal

-- no form before the ones that are left is one
abbrev pub invariant-loop-form : goal.invariant-loop-form
invariant-loop-form l = spec.first_trip l.entries l.ctx l.low l.high (drop l.form-index l.forms)
    ≡ spec.first_trip l.entries l.ctx l.low l.high l.forms
