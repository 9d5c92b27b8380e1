use Rattle.std.proofs.Common.{◌≡◌, length}
use Rattle.deriv_file.specs.Places.{open_places}
use Rattle.deriv_file.proofs.places.Places.take.Given as goal

abbrev pub invariant-runs : goal.invariant-runs
invariant-runs l = open_places l.self ≡ open_places l.fn.self

abbrev pub decreases-runs : goal.decreases-runs
decreases-runs l = length l.self.below.items
