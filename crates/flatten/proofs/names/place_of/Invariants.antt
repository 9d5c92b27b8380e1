use Rattle.std.proofs.Common.{◌≡◌, ◌+◌, drop}
use Rattle.flatten.specs.Code.{place}
use Rattle.flatten.proofs.names.place_of.Given as goal

abbrev pub invariant-loop-name : goal.invariant-loop-name
invariant-loop-name l = (l.at ≡ l.name-index) × (l.at + place (drop l.name-index l.names) l.x ≡ place l.names l.x)
